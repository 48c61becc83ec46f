-- The whole step on words, as the code goes, with the notes that a survey left.
use Rattle.std.specs.Prelude.{ℕ, Option, Some, None, Ok, Err, Bool, false, cond, List, ltb, eqb}
use Rattle.sock.specs.Kind
use Rattle.sock.specs.Words.{kind_of}
use Rattle.skipping.specs.Pass.{pass_list}
use Rattle.layout.specs.Own.{own_end}
use Rattle.layout.specs.Positions.{onward}
use Rattle.finding.specs.declared.find.Site.{Site}
use Rattle.rules.specs.Rewriting.{at}
use Rattle.layout.specs.declared.limit.Limits.{Limits}
use Rattle.stepping.specs.declared.bundles.Numbers.{Numbers}
use Rattle.layout.specs.Kinds.{counted_as}
use Rattle.stepping.specs.declared.steps.Way.{Way}
use Rattle.stepping.specs.declared.steps.Way.TheVariants as ways
use Rattle.stepping.specs.Bundles.{Engines, side_of, bound_of, encounter_of}
use Rattle.stepping.specs.Enabled.{Enabled, site_w, enabled_w}
use Rattle.stepping.specs.Answering.{Answered, answered, refusing}
use Rattle.stepping.specs.Exchanging.{between_w}
use Rattle.stepping.specs.Alone.{alone_w}

unfoldable pub body_nil : List ℕ → List ℕ → ℕ → Bool
body_nil ws notes i = eqb (at ws (pass_list 64 ws notes (onward i 2))) 0

unfoldable pub by_kind : ℕ → ℕ
by_kind kind =
    cond (eqb kind Kind.assign) 1
    (cond (eqb kind Kind.if) 1
    (cond (eqb kind Kind.while) 1
    (cond (eqb kind Kind.notify) 2
    (cond (eqb kind Kind.solicit) 2
    (cond (eqb kind Kind.notice) 2
    (cond (ltb kind Kind.inst) 0 (cond (ltb kind Kind.cH) 1 0)))))))

-- by name: nothing, alone, sending
abbrev pub way_as : ℕ → Option Way
way_as n = cond (eqb n 0) None (cond (eqb n 1) (Some ways.Alone) (Some ways.Sending))

unfoldable pub moves_w : List ℕ → List ℕ → ℕ → ℕ → ℕ
moves_w ws notes i kind =
    cond (eqb kind Kind.scope) (cond (body_nil ws notes i) 1 0)
    (cond (eqb kind Kind.executor) (cond (eqb (at ws (own_end ws i)) 0) 2 0) (by_kind kind))

unfoldable pub partner_w : Limits → List ℕ → Engines → Numbers → Site → ℕ → List ℕ → Option Site → Answered
partner_w limits ws g k a kind out None = answered (refusing 4) out
partner_w limits ws g k a kind out (Some b) = between_w limits ws (encounter_of g k kind a b) out

unfoldable pub receiving_w : Limits → List ℕ → List ℕ → Engines → Numbers → Site → ℕ → List ℕ → Answered
receiving_w limits ws notes g k a kind out = partner_w limits ws g k a kind out (site_w ws notes g k.second k.second_position)

unfoldable pub none_else : ℕ → ℕ → ℕ → Bool
none_else i place branch = cond (eqb i 0) (cond (eqb place 0) (eqb branch 0) false) false

unfoldable pub moving_w : Limits → List ℕ → List ℕ → Engines → Numbers → Site → List ℕ → Answered
moving_w limits ws notes g k a out =
    let kind = counted_as (kind_of (at ws a.at)) in
    let m = moves_w ws notes a.at kind in
    cond (eqb m 0) (answered (refusing 3) out)
    (cond (eqb m 1)
    (cond (none_else k.second k.second_position k.branch) (alone_w limits ws notes (side_of g k.engine a) kind (bound_of g) out)
    (answered (refusing 3) out))
    (receiving_w limits ws notes g k a kind out))

unfoldable pub moved_w : Limits → List ℕ → List ℕ → Numbers → List ℕ → Enabled → Answered
moved_w limits ws notes k out (Err n) = answered (refusing n) out
moved_w limits ws notes k out (Ok (g, a)) = moving_w limits ws notes g k a out

unfoldable pub step_w : Limits → List ℕ → List ℕ → Numbers → List ℕ → Answered
step_w limits ws notes k out = moved_w limits ws notes k out (enabled_w limits ws notes k.engine k.position)
