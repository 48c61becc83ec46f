-- Between two engines, as the code goes.
use Rattle.std.specs.Prelude.{ℕ, Bool, false, cond, List, eqb}
use Rattle.sock.specs.Kind
use Rattle.sock.specs.Words.{first_variable, executors_client, notices_client}
use Rattle.evaluating.specs.Evaluating.{value_in}
use Rattle.rules.specs.Storing.{unchanged}
use Rattle.rules.specs.Rewriting.{Rewritten, rewritten, vanishing, at}
use Rattle.rules.specs.Messages.{hears_w, heard_w, serves_w, served_w, answers_w, answered_w}
use Rattle.rules.specs.Offering.{Offer, fits_w, hear_w, serve_w, ask_w, awaits_w, answer_w, fail_w}

unfoldable pub addressed_w : List ℕ → List ℕ → ℕ → Bool
addressed_w ws vs receiver = eqb (value_in vs (first_variable (at ws 1))) receiver

unfoldable pub replies_w : List ℕ → List ℕ → ℕ → ℕ → ℕ → ℕ → Bool
replies_w ws other client branch sender receiver = cond (eqb branch 0) (awaits_w other (at ws 0) (at ws 2) client sender receiver) false

unfoldable pub replied_w : List ℕ → List ℕ → ℕ → ℕ → ℕ → Bool
replied_w ws other branch sender receiver =
    cond (replies_w ws other (executors_client (at ws 1)) branch sender receiver) (answers_w ws other) false

unfoldable pub taker_of : ℕ → ℕ
taker_of kind = cond (eqb kind Kind.notify) Kind.one_way Kind.request

unfoldable pub counts_w : List ℕ → List ℕ → ℕ → ℕ → Bool
counts_w ws other guard kind = cond (eqb kind Kind.notify) (hears_w ws other guard) (serves_w ws other guard)

unfoldable pub takes_w : List ℕ → List ℕ → Offer → ℕ → Bool
takes_w ws other o kind = cond (fits_w other o (taker_of kind) (at ws 0)) (counts_w ws other o.guard kind) false

unfoldable pub fit_w : List ℕ → List ℕ → List ℕ → Offer → ℕ → ℕ → ℕ → ℕ → Bool
fit_w ws vs other o kind branch sender receiver =
    cond (eqb kind Kind.executor) (replied_w ws other branch sender receiver)
    (cond (eqb kind Kind.notice) (replies_w ws other (notices_client (at ws 1)) branch sender receiver)
    (cond (addressed_w ws vs receiver) (takes_w ws other o kind) false))

unfoldable pub serial_w : List ℕ → ℕ → ℕ → ℕ
serial_w ws kind next = cond (eqb kind Kind.notify) 0 (cond (eqb kind Kind.solicit) next (at ws 2))

unfoldable pub send_w : List ℕ → ℕ → ℕ → ℕ → List ℕ → Rewritten
send_w ws kind server serial fresh = cond (eqb kind Kind.solicit) (ask_w ws server serial fresh) (rewritten (vanishing unchanged) fresh)

unfoldable pub receive_w : List ℕ → List ℕ → List ℕ → Offer → ℕ → ℕ → ℕ → List ℕ → Rewritten
receive_w ws vs other o kind client serial fresh =
    cond (eqb kind Kind.notify) (rewritten (hear_w other o (heard_w ws vs other o.guard)) fresh)
    (cond (eqb kind Kind.solicit) (serve_w other o client serial (served_w ws vs other o.guard) fresh)
    (cond (eqb kind Kind.executor) (answer_w other (answered_w ws vs other) fresh) (fail_w other (at ws 1) fresh)))
