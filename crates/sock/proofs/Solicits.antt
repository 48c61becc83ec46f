-- A solicit never lengthens or deepens a configuration: a waiter has 1 - count of y words more than its solicit, an executor 1 - count of x
-- words more than its request, and neither is deeper. So a step that solicits is never refused with 8 or 9.
-- Assumes nothing.
use Prim.Native.Nat.{ℕ, zero, suc, ◌+◌, ◌*◌, ◌≤◌, ◌<◌}
use native.Mathlib.Omega.{arith}
use mathlib.Core.Path.{◌≡◌, refl, sym, subst, ap, ◌∙◌}
use mathlib.Core.Bool.{Bool, true, false, not, ◌||◌}
use mathlib.Core.Option.{Option, none, some}
use mathlib.Core.List.{List, [], ◌∷◌, ◌++◌}
use lib.Dec.{T, leb, ltb, eqb, eqb→eq, ltb→lt, le→leb, T_not}
use lib.ListN.{length, length-append}
use borrow.Author.Tests.{eq-eqb}
use Rattle.sock.specs.Kind
use Rattle.sock.specs.Kind.{word, variables, rows, row_of}
use Rattle.sock.specs.Words.{kind_of, count_of, name_of, second_of, first_variable, next_variable}
use Rattle.sock.specs.Variables.{variable_words, variables_of, behind_variables, head_variables, later_variables, values_at}
use Rattle.sock.specs.Term.{Expr, Node, node, Block, list, Entries, Nodes, no_parts, ◌&◌, kind, processes_of, part_at, entries_of}
use Rattle.sock.specs.Layout.{exprs_words, words, block_words, nodes_words, depth, nodes_depth}
use Rattle.sock.specs.Reading.{code, anywhere, fixed_at}
use Rattle.sock.specs.Running.{Run, executor, waiter, act, as_node, enable}
use Rattle.sock.specs.Configuration.{Limits, Engine, Config, encode, engines_depth, read_config}
use Rattle.sock.specs.Evaluation.{value_at}
use Rattle.sock.specs.Frames.{Frame, is_done, seq_of, plug}
use Rattle.sock.specs.Rules.{action, solicitation, Move, sends, acting, move_of, Receiver, deaf, hears, serves, receiver, Offer, chosen, bare, offered, offer, followed, Meeting, if_serves, Exchange, exchange}
use Rattle.sock.specs.Calls.{Refusal, unreadable, nobody_there, no_move, no_partner, no_fit, not_decimal, installing, serials_spent, deep, long, short, number, Result, refused, done, ◌>>=◌, ◌>>◌, ◌!◌, ◌unless◌, Numbers, Spot, enabled_at, movable, partner, Effect, between, meeting, effect, Stepped, with_engine, carried_out, step, answer_of, step_answer}
use Rattle.sock.specs.Runs.{is_solicit}
use Rattle.sock.proofs.Logic.{cond-case, All, all_none, all_some, all_also, all_guarded, all_some_lem}
use Rattle.sock.proofs.Fits.{FitsFixed, no_fixed, one_fixed, some_variables, Fits, fits, FitsBlock, a_list, FitsParts, no_part, one_part, Sound, nil_sound, seq_sound, par_sound, scope_sound, executor_sound, waiter_sound, notice_sound, act_sound, FitsConfig, Readable}
use Rattle.sock.proofs.Nodes.{part_fits}
use Rattle.sock.proofs.Variables.{variables_same, behind_read}
use Rattle.sock.proofs.Measures.{size_seq, size_executor, size_waiter, size_act, depth_seq, depth_executor, depth_waiter, depth_act}
use Rattle.sock.proofs.ByKind.{run_kind, kind_as_node}
use Rattle.sock.proofs.Configuration.{config_found}
use Rattle.sock.proofs.Located.{Enabled, enabled_stands, all_equal}
use Rattle.sock.proofs.Steps.{FitsSpot, enabled_fits}
use Rattle.sock.proofs.Shrinking.{NoLarger, enable_size, enable_depth, NoLargerAll, both_shrink}
use Rattle.sock.proofs.Delivery.{set_counted, spot_shrinks}

-- ---- own words with two lists

-- the words of two lists, of which the first has at least one
record TwoLists (f y x : List ℕ) : Type 0 where
  total : length f ≡ 1 + length (variable_words y) + length (variable_words x)
  some : 0 < length (variable_words y)

two_lists :
    {m : ℕ} {f : List ℕ} (h first : ℕ) → FitsFixed (word m ∷ variables ∷ variables ∷ []) f → TwoLists f (head_variables 1 h f) (later_variables first f)
two_lists h first (one_fixed w (some_variables {c = c} {v = v} t g (some_variables {c = c'} {v = v'} t' g' no_fixed))) =
    let rest : List ℕ = c' ∷ v' ++ [] in
    let ey : length (variable_words (variables_of (second_of h) (c ∷ v ++ rest))) ≡ suc (length v) = ap length (variables_same c (second_of h) t g rest) in
    let ex : length (variable_words (variables_of first rest)) ≡ suc (length v') = ap length (variables_same c' first t' g' []) in
    let eb : length (variable_words (variables_of first (behind_variables (c ∷ v ++ rest)))) ≡ length (variable_words (variables_of first rest)) =
    ap (λ l. length (variable_words (variables_of first l))) (behind_read c first t g rest) in
    record { total = omega (arith, length-append v rest, length-append v' []); some = omega arith }

-- ---- a solicit and its waiter

-- the words of a node's own, without what is in its list
solicit_shrinks :
    {h : ℕ} {f : List ℕ} {es : List Expr} {b : Block} {ps : Nodes} →
    kind_of h ≡ Kind.solicit →
    FitsFixed (row_of (kind_of h)).fixed f →
    FitsBlock (eqb (kind_of h) Kind.scope) (row_of (kind_of h)).lists b →
    (o server serial : ℕ) →
    NoLarger (waiter o (later_variables (next_variable (fixed_at f 0)) f) false server serial (entries_of b)) (act (node h f es b ps))
unfolding row_of rows words depth
solicit_shrinks {h} {f} {es} {b} {ps} k x y o server serial = by (rw k at x) (rw k at y)
  where
    xs : List ℕ
    xs = later_variables (next_variable (fixed_at f 0)) f

    by :
        FitsFixed (word 64 ∷ variables ∷ variables ∷ []) f →
        {b : Block} → FitsBlock false 1 b →
        NoLarger (waiter o (later_variables (next_variable (fixed_at f 0)) f) false server serial (entries_of b)) (act (node h f es b ps))
    by g (a_list {l = l} z) =
        let two : TwoLists f (head_variables 1 h f) xs = two_lists h (next_variable (fixed_at f 0)) g in
        let all = length-append f (exprs_words es ++ (block_words (list l) ++ nodes_words ps)) in
        let some = length-append (exprs_words es) (block_words (list l) ++ nodes_words ps) in
        let listed = length-append (block_words (list l)) (nodes_words ps) in
        record {
          shorter = omega (arith, two.total, two.some, size_waiter o xs false server serial l, size_act (node h f es (list l) ps));
          shallower = omega (arith, depth_waiter o xs false server serial l, depth_act (node h f es (list l) ps));
        }

-- ---- a request and its executor

-- what serves a request is no larger than the process q, with what follows it
data Serves (q : Run) (next : Option Node) : Receiver → Type 0 where
  serves_none : Serves q next deaf
  serves_hears : {o : ℕ} {x : List ℕ} → Serves q next (hears o x)
  serves_with :
      {op : ℕ} {x y : List ℕ} {p : Node} →
      ((o client serial : ℕ) → NoLarger (followed (executor o y client serial (enable p)) next) q) →
      Serves q next (serves op x y p)

request_shrinks :
    {h : ℕ} {f : List ℕ} {es : List Expr} {b : Block} {ps : Nodes} →
    kind_of h ≡ Kind.request →
    FitsFixed (row_of (kind_of h)).fixed f →
    FitsParts (code false) (kind_of h) (processes_of h) ps →
    (o client serial : ℕ) →
    NoLarger (executor o (later_variables (first_variable (fixed_at f 0)) f) client serial (enable (part_at ps 0))) (act (node h f es b ps))
unfolding row_of rows processes_of words depth
request_shrinks {h} {f} {es} {b} k x qs o client serial = by (rw k at x) (rw k at qs)
  where
    ys : List ℕ
    ys = later_variables (first_variable (fixed_at f 0)) f

    by :
        FitsFixed (word 2048 ∷ variables ∷ variables ∷ []) f →
        {ps : Nodes} → FitsParts (code false) 8 1 ps →
        NoLarger (executor o (later_variables (first_variable (fixed_at f 0)) f) client serial (enable (part_at ps 0))) (act (node h f es b ps))
    by g (one_part {p = p} z no_part) =
        let two : TwoLists f (head_variables 1 h f) ys = two_lists h (first_variable (fixed_at f 0)) g in
        let all = length-append f (exprs_words es ++ (block_words b ++ nodes_words (p & no_parts))) in
        let some = length-append (exprs_words es) (block_words b ++ nodes_words (p & no_parts)) in
        let listed = length-append (block_words b) (nodes_words (p & no_parts)) in
        let parts = length-append (words p) (nodes_words no_parts) in
        let code_p : Fits (code false) anywhere p = part_fits (one_part {k = 8} z no_part) 0 in
        record {
          shorter = omega (arith, two.total, two.some, size_executor o ys client serial (enable p), size_act (node h f es b (p & no_parts)), enable_size code_p);
          shallower = omega (arith, depth_executor o ys client serial (enable p), depth_act (node h f es b (p & no_parts)), enable_depth code_p);
        }

receiver_serves : {m : Node} → Fits (code false) anywhere m → Serves (act m) none (receiver m)
unfolding receiver followed
receiver_serves (fits {h = h} {f = f} {es = es} {b = b} {ps = ps} t x e y qs g) =
    cond-case (Serves (act (node h f es b ps)) none) (eqb (kind_of h) Kind.one_way) (λ u. serves_hears)
    (λ u. cond-case (Serves (act (node h f es b ps)) none) (eqb (kind_of h) Kind.request)
    (λ v. serves_with (request_shrinks (eqb→eq (kind_of h) 8 v) x qs)) (λ v. serves_none))

-- two parts, one behind the other
record Two (ps : Nodes) (p q : Node) : Type 0 where
  total : length (words p) + length (words q) ≤ length (nodes_words ps)
  first : depth p ≤ nodes_depth ps
  second : depth q ≤ nodes_depth ps

two_parts : {k c : ℕ} {ps : Nodes} → FitsParts (code false) k c ps → (i : ℕ) → suc i < c → Two ps (part_at ps i) (part_at ps (suc i))
unfolding words depth
two_parts no_part i h = absurd (omega arith)
two_parts (one_part z no_part) i h = absurd (omega arith)
two_parts (one_part {p = p} z (one_part {p = q} {ps = ps} y zs)) zero h =
    record {
      total = omega (arith, length-append (words p) (words q ++ nodes_words ps), length-append (words q) (nodes_words ps));
      first = omega arith;
      second = omega arith;
    }
two_parts (one_part {p = p} z (one_part {p = q} {ps = ps} y zs)) (suc i) h =
    let rest : Two (q & ps) (part_at (q & ps) i) (part_at (q & ps) (suc i)) = two_parts (one_part y zs) i (omega arith) in
    record {
      total = omega (arith, rest.total, length-append (words p) (words q ++ nodes_words ps));
      first = omega (arith, rest.first);
      second = omega (arith, rest.second);
    }

-- a branch in a choice: what serves its guard, then its process
branch_shrinks :
    {h : ℕ} {f : List ℕ} {es : List Expr} {b : Block} {ps : Nodes} {p q : Node} →
    Two ps p q →
    {r : Receiver} →
    Serves (act p) none r →
    Serves (act (node h f es b ps)) (some q) r
unfolding followed seq_of is_done words depth
branch_shrinks two serves_none = serves_none
branch_shrinks two serves_hears = serves_hears
branch_shrinks {h} {f} {es} {b} {ps} {p} {q} two (serves_with {y = y} {p = body} n) =
    serves_with {y = y} {p = body} λ o client serial.
    let e : Run = executor o y client serial (enable body) in
    let small : NoLarger e (act p) = n o client serial in
    let all = length-append f (exprs_words es ++ (block_words b ++ nodes_words ps)) in
    let some = length-append (exprs_words es) (block_words b ++ nodes_words ps) in
    let listed = length-append (block_words b) (nodes_words ps) in
    record {
      shorter = omega (arith, two.total, small.shorter, size_act p, size_seq e q, size_act (node h f es b ps));
      shallower = omega (arith, two.first, two.second, small.shallower, depth_act p, depth_seq e q, depth_act (node h f es b ps));
    }

offered_serves : {m : Node} → Fits (code false) anywhere m → (i : ℕ) → Serves (act m) (offered m i).next (offered m i).receives
unfolding offered bare chosen processes_of row_of rows
offered_serves (fits {h = h} {f = f} {es = es} {b = b} {ps = ps} t x e y qs g) i =
    cond-case (λ (o : Offer). Serves (act (node h f es b ps)) o.next o.receives) (eqb (kind_of h) Kind.choice) (λ u. many i (eqb→eq (kind_of h) 6 u)) (λ u. single i)
  where
    single : (i : ℕ) → Serves (act (node h f es b ps)) (bare (node h f es b ps) i).next (bare (node h f es b ps) i).receives
    single zero = receiver_serves (fits t x e y qs g)
    single (suc i) = serves_none

    many : (i : ℕ) → kind_of h ≡ 6 → Serves (act (node h f es b ps)) (chosen (count_of h) ps i).next (chosen (count_of h) ps i).receives
    many zero k = serves_none
    many (suc i) k =
        cond-case (λ (o : Offer). Serves (act (node h f es b ps)) o.next o.receives) (ltb i (count_of h))
        (λ u.
        let n : i < count_of h = ltb→lt i (count_of h) u in
        let next : 2 * i + 1 ≡ suc (2 * i) = omega arith in
        let parts : FitsParts (code false) 6 (count_of h * 2) ps = rw k at qs in
        branch_shrinks (rw next (two_parts parts (2 * i) (omega arith))) (receiver_serves (part_fits qs (2 * i))))
        (λ u. serves_none)

offer_serves : {n issued : ℕ} {q : Run} → Sound n issued q → (i : ℕ) → Serves q (offer q i).next (offer q i).receives
unfolding offer
offer_serves nil_sound i = serves_none
offer_serves (seq_sound a t q) i = serves_none
offer_serves (par_sound a t b u) i = serves_none
offer_serves (scope_sound b m h a) i = serves_none
offer_serves (executor_sound o y e a) i = serves_none
offer_serves (waiter_sound o x e l) i = serves_none
offer_serves (notice_sound o f e) i = serves_none
offer_serves (act_sound t g) i = offered_serves g i

-- ---- the exchange

-- what the two become is no larger than they were
record Small (p q : Run) (vs : List ℕ) (x : Exchange) : Type 0 where
  sender : NoLarger x.sender p
  receiver : NoLarger x.receiver q
  counted : length x.values ≡ length vs

module _ (k : Meeting) (p : Run) (o : ℕ) (v x : List ℕ) (l : Entries) (small : (o server serial : ℕ) → NoLarger (waiter o x false server serial l) p) where
  serves_small :
      {A : Type 0} {P : A → Type 0} {r : Receiver} {next : Option Node} {made : ℕ → List ℕ → List ℕ → Node → Option A} → Serves k.process next r →
      ((op : ℕ) (x y : List ℕ) (p : Node) → ((o client serial : ℕ) → NoLarger (followed (executor o y client serial (enable p)) next) k.process) → All P (made op x y p)) →
      All P (if_serves r made)
  unfolding if_serves
  serves_small serves_none f = all_none
  serves_small serves_hears f = all_none
  serves_small (serves_with n) f = f _ _ _ _ n

  exchange_small : {n issued : ℕ} → Sound n issued k.process → (z : ℕ) → All (Small p k.process k.values) (exchange k (solicitation o v z x l))
  unfolding exchange
  exchange_small g z =
      all_guarded _ λ u.
      serves_small (offer_serves g k.branch) λ op x' y q n.
      all_guarded _ λ t.
      all_some (record { sender = small o k.receiver (suc k.issued); receiver = n o k.sender (suc k.issued); counted = set_counted k.values x' v })

-- ---- the step

-- a process that solicits, seen
data Soliciting : Run → Type 0 where
  soliciting : {m : Node} → Fits (code false) anywhere m → kind m ≡ Kind.solicit → Soliciting (act m)

solicit_seen : {n issued : ℕ} {r : Run} → Sound n issued r → T (is_solicit r) → Soliciting r
unfolding is_solicit
solicit_seen s t = by s (rw (kind_as_node s) at t)
  where
    by : {n issued : ℕ} {r : Run} → Sound n issued r → T (eqb (run_kind r) Kind.solicit) → Soliciting r
    by nil_sound t = absurd t
    by (seq_sound a d q) t = absurd t
    by (par_sound a d b d') t = absurd t
    by (scope_sound b m h a) t = absurd t
    by (executor_sound o y e a) t = absurd t
    by (waiter_sound o x e l) t = absurd t
    by (notice_sound o f e) t = absurd t
    by (act_sound {p} i f) t = soliciting f (eqb→eq (kind p) 10 t)

-- the message that it sends
record Sends (vs : List ℕ) (fs : List Frame) (p : Run) : Type 0 where
  operation : ℕ
  values : List ℕ
  named : ℕ
  variables : List ℕ
  handlers : Entries
  sent : move_of vs fs p ≡ sends (solicitation operation values named variables handlers)
  small : (o server serial : ℕ) → NoLarger (waiter o variables false server serial handlers) p

solicit_sends : {p : Run} → Soliciting p → (vs : List ℕ) (fs : List Frame) → Sends vs fs p
unfolding move_of acting action
solicit_sends (soliciting (fits {h = h} {f = f} {b = b} t x e y qs g) k) vs fs =
    record {
      operation = name_of h;
      values = values_at vs (head_variables 1 h f);
      named = value_at vs (first_variable (fixed_at f 0));
      variables = later_variables (next_variable (fixed_at f 0)) f;
      handlers = entries_of b;
      sent = rw k;
      small = solicit_shrinks k x y;
    }

-- a refusal other than 8 and 9, or a result no longer and no deeper
abbrev mild : Refusal → Bool
mild r = not (eqb (number r) 8 || eqb (number r) 9)

pub data Within (c : Config) : Result Stepped → Type 0 where
  refused_within : {r : Refusal} → T (mild r) → Within c (refused r)
  done_within :
      {s : Stepped} →
      length (encode s.config) ≤ length (encode c) →
      engines_depth s.config.engines ≤ engines_depth c.engines →
      Within c (done s)

within_then :
    {A : Type 0} {P : A → Type 0} {c : Config} (r : Refusal) → T (mild r) → {o : Option A} → All P o → {k : A → Result Stepped} →
    ((a : A) → P a → Within c (k a)) → Within c ((r ! o) >>= k)
unfolding ◌!◌ ◌>>=◌
within_then r t all_none f = refused_within t
within_then r t (all_some {a = a} h) f = f a h

within_unless : {c : Config} (r : Refusal) → T (mild r) → (b : Bool) {k : Result Stepped} → Within c k → Within c (◌>>◌ (r unless b) k)
unfolding ◌unless◌ ◌>>◌
within_unless r t true w = w
within_unless r t false w = refused_within t

within_pass : {c : Config} (r : Refusal) (b : Bool) → T b → {k : Result Stepped} → Within c k → Within c (◌>>◌ (r unless b) k)
unfolding ◌unless◌ ◌>>◌
within_pass r true t w = w
within_pass r false t w = absurd t

-- what is carried out is no larger
module _ (limits : Limits) (c : Config) (readable : Readable limits c) (k : Numbers) (a b : Spot) where
  record Smaller (x : Effect) : Type 0 where
    exchanged : Exchange
    between_them : x ≡ between exchanged
    apart : a.engine ≡ b.engine → ⊥
    small : Small a.process b.process b.values exchanged

  effect_smaller :
      Sends a.values a.frames a.process →
      FitsSpot c b →
      (m : Move) → m ≡ move_of a.values a.frames a.process → All (All Smaller) (effect c k a b m)
  unfolding effect
  effect_smaller s y m e =
      rw (e, s.sent)
      (all_guarded (not (eqb a.engine b.engine)) λ t.
      let apart : a.engine ≡ b.engine → ⊥ = λ q. T_not (eqb a.engine b.engine) t (subst T (sym (eq-eqb a.engine b.engine q)) tt) in
      all_also
      (exchange_small (meeting c k a b) a.process s.operation s.values s.variables s.handlers s.small y.process s.named)
      λ x z. all_some (all_some (record { exchanged = x; between_them = refl; apart = apart; small = z })))

  record Light (s : Stepped) : Type 0 where
    shorter : length (encode s.config) ≤ length (encode c)
    shallower : engines_depth s.config.engines ≤ engines_depth c.engines

  carried_light :
      enabled_at c k.engine k.position ≡ some a →
      enabled_at c k.second k.second_position ≡ some b →
      (x : Effect) → Smaller x → All Light (carried_out c a b x)
  unfolding carried_out encode
  carried_light at at' x w =
      let f : FitsConfig c = readable.fitting in
      let u : Enabled c k.engine k.position a = enabled_stands c k.engine k.position a f at in
      let v : Enabled c k.second k.second_position b = enabled_stands c k.second k.second_position b f at' in
      let z : Small a.process b.process b.values w.exchanged = w.small in
      let g : Exchange = w.exchanged in
      let es : List Engine =
      with_engine k.second g.values (plug b.frames g.receiver) (with_engine k.engine a.values (plug a.frames g.sender) c.engines) in
      let small : NoLargerAll es c.engines =
      both_shrink c.engines k.engine k.second _ _ _ (λ q. w.apart (u.engine ∙ q ∙ sym v.engine)) u.inside v.inside
      (spot_shrinks c k.engine k.position a f at a.values g.sender refl z.sender)
      (spot_shrinks c k.second k.second_position b f at' g.values g.receiver z.counted z.receiver) in
      let st : Stepped = record { config = record { issued = g.issued; engines = es }; kind = kind (as_node a.process); serial = g.serial; fault = g.fault } in
      let carried : carried_out c a b x ≡ some st = rw (w.between_them, u.engine, v.engine) in
      let light : Light st = record { shorter = omega (arith, small.shorter); shallower = small.shallower } in
      subst (λ o. All Light o) (sym carried) (all_some {a = st} light)

abbrev At : Config → ℕ → ℕ → Spot → Type 0
At c e p a = enabled_at c e p ≡ some a

-- A step that solicits
module _ (limits : Limits) (ws : List ℕ) (k : Numbers) (room : ℕ) where
  movable_sends : {vs : List ℕ} {fs : List Frame} {p : Run} → Sends vs fs p → All (λ m. m ≡ move_of vs fs p) (movable k (move_of vs fs p))
  unfolding movable
  movable_sends {vs} {fs} {p} s = subst (λ m. All (λ n. n ≡ m) (movable k m)) (sym s.sent) (all_some refl)

  partner_there :
      (c : Config) (a : Spot) → Sends a.values a.frames a.process → (m : Move) → m ≡ move_of a.values a.frames a.process →
      All (At c k.second k.second_position) (partner c k a m)
  unfolding partner
  partner_there c a s m e =
      subst (λ m. All (At c k.second k.second_position) (partner c k a m)) (sym (e ∙ s.sent))
      (all_equal (enabled_at c k.second k.second_position))

  pub solicit_within :
      {c : Config} {a : Spot} → read_config limits ws ≡ some c → enabled_at c k.engine k.position ≡ some a → T (is_solicit a.process) →
      Within c (step limits ws k room)
  unfolding step
  solicit_within {c} {a} r at t =
      within_then unreadable tt (all_equal (read_config limits ws)) λ c' r'.
      let same : c ≡ c' = cc in
      let good : Readable limits c' = (config_found limits ws c' r').1 in
      let as_long : length (encode c) ≡ length (encode c') = ap (λ c. length (encode c)) same in
      let as_deep : engines_depth c.engines ≡ engines_depth c'.engines = ap (λ c. engines_depth c.engines) same in
      within_then nobody_there tt (all_equal (enabled_at c' k.engine k.position)) λ a' at'.
      let here : a ≡ a' = cc in
      let x : FitsSpot c' a' = all_some_lem (enabled_fits good.fitting k.engine k.position) at' in
      let seen : Soliciting a'.process = solicit_seen x.process (subst (λ a. T (is_solicit a.process)) here t) in
      let s : Sends a'.values a'.frames a'.process = solicit_sends seen a'.values a'.frames in
      within_then no_move tt (movable_sends s) λ m e.
      within_then no_partner tt (partner_there c' a' s m e) λ b there.
      let y : FitsSpot c' b = all_some_lem (enabled_fits good.fitting k.second k.second_position) there in
      within_then no_fit tt (effect_smaller limits c' good k a' b s y m e) λ o z.
      within_then not_decimal tt z λ f w.
      within_then installing tt (carried_light limits c' good k a' b at' there f w) λ st light.
      within_unless serials_spent tt (leb st.config.issued 65535)
      (within_pass deep (leb (engines_depth st.config.engines) limits.deepest)
      (le→leb (engines_depth st.config.engines) limits.deepest (omega (arith, light.shallower, good.shallow)))
      (within_pass long (leb (length (encode st.config)) limits.longest)
      (le→leb (length (encode st.config)) limits.longest (omega (arith, light.shorter, good.short)))
      (within_unless short tt (leb (length (encode st.config)) room) (done_within {s = st} (omega (arith, light.shorter)) (omega (arith, light.shallower))))))

within_number : {c : Config} {r : Result Stepped} → Within c r → T (not (eqb (answer_of r).number 8 || eqb (answer_of r).number 9))
unfolding answer_of
within_number (refused_within t) = t
within_number (done_within a b) = tt

-- it is never refused with 8 or 9
pub solicit_fits :
    (limits : Limits) (ws : List ℕ) (k : Numbers) (out : List ℕ) {c : Config} {a : Spot} →
    read_config limits ws ≡ some c →
    enabled_at c k.engine k.position ≡ some a →
    T (is_solicit a.process) →
    T (not (eqb (step_answer limits ws k out).number 8 || eqb (step_answer limits ws k out).number 9))
unfolding step_answer
solicit_fits limits ws k out r at t = within_number (solicit_within limits ws k (length out) r at t)
