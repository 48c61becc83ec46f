-- Which processes move alone, which send, and which do neither: the code tells them by their kinds.
-- Assumes nothing.
use Prim.Native.Nat.{ℕ, zero, suc, ◌+◌, ◌*◌, ◌≤◌, ◌<◌, max}
use native.Mathlib.Omega.{arith}
use mathlib.Core.Path.{◌≡◌, refl, sym, ap, ◌∙◌}
use mathlib.Core.Bool.{Bool, true, false, cond}
use mathlib.Core.Option.{Option, some, none}
use mathlib.Core.List.{List, ◌∷◌, ◌++◌, append_assoc}
use borrow.Author.Tests.{ne_eqb, eqb-false}
use lib.Dec.{eqb}
use lib.ListN.{length, drop}
use Rattle.sock.specs.Kind.{rows, row_of}
use Rattle.sock.specs.Words.{kind_of, head_of, name_fields}
use Rattle.sock.specs.Variables.{first_of, variable_words, values_at}
use Rattle.sock.specs.Term.{Node, Entries, head_word, kind}
use Rattle.sock.specs.Layout.{count, entries_words, entries_depth}
use Rattle.sock.specs.Running.{Mark, marked_fault, scope_head, Run, nil, seq, par, scope, executor, waiter, notice, act, as_node, run_words, size, run_depth}
use Rattle.sock.specs.Configuration.{Config}
use Rattle.sock.specs.Calls.{engine_at}
use Rattle.sock.specs.Frames.{Located, is_done}
use Rattle.sock.specs.Rules.{action, Message, reply, Move, stuck, alone, sends, ending, acting, once_done, move_of, unvalued, valued}
use Rattle.sock.proofs.Fits.{FitsFixed, one_fixed, FitsEntries, FitsEngine, Sound, scope_sound, executor_sound, act_sound}
use Rattle.sock.proofs.Fields.{head_kind, fields_below, fixed_fits, end_tests}
use Rattle.sock.proofs.Variables.{laid, list_fits}
use Rattle.sock.proofs.Located.{engine_fits, start_of}
use Rattle.sock.proofs.Measures.{words_scope, words_executor, size_scope, depth_scope}
use Rattle.sock.proofs.ByKind.{run_kind, kind_as_node, done_kind}
use Rattle.sock.proofs.Positions.{at_head, at_past}
use Rattle.reading.specs.Survey.{Starts}
use Rattle.skipping.specs.Pass.{pass_list}
use Rattle.reading.proofs.Combining.{Words}
use Rattle.skipping.proofs.Notes.{Right, pass_entries_lem}
use Rattle.reading.proofs.Known.{Known}
use Rattle.layout.specs.Own.{own_end}
use Rattle.layout.specs.Positions.{onward}
use Rattle.layout.proofs.Owns.{own_end_lem}
use Rattle.writers.proofs.Laid.{onward_near}
use Rattle.finding.specs.declared.find.Site.{Site}
use Rattle.finding.specs.Find.{fault_at}
use Rattle.finding.proofs.Within.{within}
use Rattle.finding.proofs.Spots.{Spotted}
use Rattle.rules.specs.Rewriting.{at}
use Rattle.rules.proofs.Rewrites.{head_on}
use Rattle.rules.proofs.Edits.{done_nil}
use Rattle.rules.proofs.Shapes.{Shape, assigns, branches, repeats, chooses, hears, serves, notifies, solicits, installs, throws, compensates, shape}
use Rattle.layout.specs.declared.limit.Limits.{Limits}
use Rattle.layout.specs.Limits.{figures}
use Rattle.rules.proofs.Depths.{Shallow}
use Rattle.stepping.proofs.Modest.{Modest}
use Rattle.stepping.specs.Stepping.{body_nil, by_kind, moves_w}
use Rattle.sock.proofs.Fits.{Fits, fits}
use Rattle.sock.proofs.Running.{as_node_fits}
use Rattle.sock.specs.Reading.{Stratum}
use Rattle.sock.specs.Reading as reading
use Rattle.skipping.proofs.Forms.{known}
use Rattle.stepping.proofs.Lone.{near, standing, rest, part_at, inside, process_deep, run_stands, run_deep, run_short}

-- what the code says of a move
pub data Moving : Move → ℕ → Type 0 where
  stays : Moving stuck 0
  goes : {vs : List ℕ} {q : Option Run} → Moving (alone vs q) 1
  lacks : Moving unvalued 1
  asks : {m : Message} → Moving (sends m) 2

-- by the value of an expression
valued_moving : (o : Option ℕ) {move : ℕ → Move} → ((v : ℕ) → Moving (move v) 1) → Moving (valued o move) 1
unfolding valued
valued_moving none f = lacks
valued_moving (some v) f = f v

once_moving : (b : Bool) (m : Move) (k : ℕ) → Moving m k → Moving (cond b m stuck) (cond b k 0)
once_moving true m k g = g
once_moving false m k g = stays

-- only nil begins with the word 0
head_done : {n issued : ℕ} {a : Run} → Sound n issued a → eqb (head_word (as_node a)) 0 ≡ is_done a
unfolding as_node
head_done {a = a} g = by (is_done a) refl
  where
    by : (b : Bool) → is_done a ≡ b → eqb (head_word (as_node a)) 0 ≡ b
    by true e = rw (done_nil a e)
    by false e =
        let k : run_kind a ≡ 0 → ⊥ = eqb-false (run_kind a) 0 (sym (done_kind g) ∙ e) in
        ne_eqb (head_word (as_node a)) 0 (λ z. k (sym (kind_as_node g) ∙ ap kind_of z))

module _ (ws : List ℕ) (ok : Words ws) (n issued : ℕ) (few : n ≤ 8) (small : issued < 65536) (r : Run) (sound : Sound n issued r)
    (start : ℕ) (words_at : drop start ws ≡ run_words r ++ drop (start + size r) ws) (low : 64 ≤ start) (limits : Limits) (deep : Shallow limits.deepest r)
    (short : length ws ≤ 8192) (target : ℕ) (l : Located) (s : Site) (place : within r start target ≡ some l)
    (spotted : Spotted (fault_at ws target) target r start 1 l s) (vs notes : List ℕ) (right : Right ws notes) where
  abbrev more : List ℕ
  more = rest ws ok n issued few small r sound start words_at low limits deep short target l s place spotted

  stands : drop s.at ws ≡ run_words l.process ++ more
  stands = part_at ws ok n issued few small r sound start words_at low limits deep short target l s place spotted

  within_words : s.at + size l.process ≤ length ws
  within_words = inside ws ok n issued few small r sound start words_at low limits deep short target l s place spotted

  shallow : run_depth l.process ≤ 64
  shallow = omega (arith, process_deep ws ok n issued few small r sound start words_at low limits deep short target l s place spotted, deep.low)

  onward_at : (k : ℕ) → k ≤ size l.process → onward s.at k ≡ s.at + k
  onward_at k h =
      onward_near s.at k (length ws)
      (near ws ok n issued few small r sound start words_at low limits deep short target l s place spotted)
      (omega (arith, within_words))

  -- a part that is done begins with the word 0
  at_done : (a : Run) (i : ℕ) (rest : List ℕ) → Sound n issued a → drop i ws ≡ run_words a ++ rest → eqb (at ws i) 0 ≡ is_done a
  unfolding run_words
  at_done a i rest g e = ap (λ w. eqb w 0) (head_on ws i (as_node a) rest e) ∙ head_done g

  -- a scope's body
  body_done :
      (name : ℕ) (mark : Mark) (zombie : Bool) (h : Entries) (a : Run) → l.process ≡ scope name mark zombie h a →
      FitsEntries true zero h → Sound n issued a → body_nil ws notes s.at ≡ is_done a
  unfolding body_nil
  body_done name mark zombie h a is f g =
      let i : ℕ = s.at in
      let e : drop i ws ≡ scope_head name mark zombie ∷ (marked_fault mark * 1024) ∷ count h ∷ (entries_words h ++ (run_words a ++ more)) =
      stands
      ∙ (ap (λ w. w ++ more) (ap run_words is ∙ words_scope name mark zombie h a)
      ∙ ap (λ w. scope_head name mark zombie ∷ (marked_fault mark * 1024) ∷ count h ∷ w) (append_assoc (entries_words h) (run_words a) more)) in
      let first = at_head ws i _ _ e in
      let second = at_head ws (i + 1) _ _ first.next in
      let long : size l.process ≡ 3 + length (entries_words h) + size a = ap size is ∙ size_scope name mark zombie h a in
      let high : run_depth l.process ≡ suc (max (entries_depth h) (run_depth a)) = ap run_depth is ∙ depth_scope name mark zombie h a in
      let two : onward i 2 ≡ i + 1 + 1 = onward_at 2 (omega arith) ∙ (let z : i + 2 ≡ i + 1 + 1 = omega arith in z) in
      let ends : pass_list 64 ws notes (i + 1 + 1) ≡ i + 1 + 1 + 1 + length (entries_words h) =
      pass_entries_lem ws notes right f 64 (i + 1 + 1) (omega (arith, shallow)) (run_words a ++ more) second.next in
      let third = at_head ws (i + 1 + 1) _ _ second.next in
      rw (two, ends) (at_done a (i + 1 + 1 + 1 + length (entries_words h)) more g
      (at_past ws (entries_words h) (run_words a ++ more) (i + 1 + 1 + 1) third.next))

  -- and an executor's
  work_done :
      (o : ℕ) (y : List ℕ) (client serial : ℕ) (a : Run) → l.process ≡ executor o y client serial a → Sound n issued (executor o y client serial a) →
      eqb (at ws (own_end ws s.at)) 0 ≡ is_done a
  unfolding row_of rows
  work_done o y client serial a is (executor_sound bo by t g) =
      let i : ℕ = s.at in
      let h : ℕ = head_of 16 (name_fields o (first_of y)) in
      let own : List ℕ = (client * 8192) ∷ serial ∷ variable_words y in
      let e : drop i ws ≡ (h ∷ own) ++ (run_words a ++ more) =
      stands
      ∙ (ap (λ w. w ++ more) (ap run_words is ∙ words_executor o y client serial a) ∙ append_assoc (h ∷ own) (run_words a) more) in
      let k : kind_of h ≡ 16 = head_kind 16 (name_fields o (first_of y)) (fields_below o (first_of y) bo (laid y by).low) in
      let known = end_tests n issued client serial t in
      let fixed : FitsFixed (row_of 16).fixed own =
      one_fixed (fixed_fits 8192 (client * 8192) (omega (arith, known)) (omega arith)) (one_fixed (fixed_fits 1 serial (omega (arith, known)) (omega arith)) (list_fits y by)) in
      let ends : own_end ws i ≡ i + 1 + length own = own_end_lem ws {h = h} {f = own} (omega arith) (rw k fixed) i (run_words a ++ more) e in
      let past : drop (i + 1 + length own) ws ≡ run_words a ++ more =
      ap (λ k. drop k ws) (let z : i + 1 + length own ≡ i + length (h ∷ own) = omega arith in z) ∙ at_past ws (h ∷ own) (run_words a ++ more) i e in
      rw ends (at_done a (i + 1 + length own) more g past)

  act_moves : (m : Node) → Shape m → Moving (acting vs l.frames m (action m)) (moves_w ws notes s.at (kind m))
  unfolding action acting moves_w by_kind
  act_moves m (assigns k g) = rw k (valued_moving _ λ v. goes)
  act_moves m (branches k g fp fq) = rw k (valued_moving _ λ v. goes)
  act_moves m (repeats k g fp) = rw k (valued_moving _ λ v. goes)
  act_moves m (chooses k c pt) = rw k stays
  act_moves m (hears k x) = rw k stays
  act_moves m (serves k t x y fp) = rw k stays
  act_moves m (notifies k t y) = rw k asks
  act_moves m (solicits k t y x fl) = rw k asks
  act_moves m (installs k t fl) = rw k goes
  act_moves m (throws k t) = rw k goes
  act_moves m (compensates k t) = rw k goes

  moves : (p : Run) → l.process ≡ p → Sound n issued p → Moving (move_of vs l.frames p) (moves_w ws notes s.at (run_kind p))
  unfolding move_of once_done moves_w by_kind
  moves nil is g = stays
  moves (seq a q) is g = stays
  moves (par a b) is g = stays
  moves (scope name mark zombie h a) is (scope_sound x y f g) =
      rw (body_done name mark zombie h a is f g)
      (once_moving (is_done a) (alone vs (some (ending name mark zombie h l.frames))) 1 goes)
  moves (executor o y client serial a) is (executor_sound x z t g) =
      rw (work_done o y client serial a is (executor_sound x z t g))
      (once_moving (is_done a) (sends (reply o (values_at vs y) client serial)) 2 asks)
  moves (waiter o x dead server serial q) is g = stays
  moves (notice o f client serial) is g = asks
  moves (act m) is (act_sound i f) = act_moves m (shape i f)

  pub moving : Moving (move_of vs l.frames l.process) (moves_w ws notes s.at (kind (as_node l.process)))
  moving =
      let g : Sound n issued l.process =
      (standing ws ok n issued few small r sound start words_at low limits deep short target l s place spotted).process in
      rw (kind_as_node g) (moves l.process refl g)

-- a process that fits is of one of the kinds
fits_known : {s : Stratum} {p : reading.Place} {m : Node} → Fits s p m → kind m < 19
fits_known (fits t fx ex bl pt nf) = known _ _ _ t

-- in a configuration that is known
module _ (ws : List ℕ) (ok : Words ws) (starts : Starts) {limits : Limits} (modest : Modest limits) (known : Known (figures limits) ws starts) (e : ℕ)
    (h : e < length known.config.engines)
    (target : ℕ) (l : Located) (s : Site) (place : within (engine_at known.config e).process (start_of known.config e) target ≡ some l)
    (spotted : Spotted (fault_at ws target) target (engine_at known.config e).process (start_of known.config e) 1 l s)
    (notes : List ℕ) (right : Right ws notes) where
  abbrev c : Config
  c = known.config

  pub known_moving :
      Moving (move_of (engine_at c e).values l.frames l.process)
      (moves_w ws notes s.at (kind (as_node l.process)))
  known_moving =
      let fit : FitsEngine (length c.engines) c.issued (engine_at c e) = engine_fits _ known.readable.fitting.engines e h in
      moving ws ok (length c.engines) c.issued known.readable.fitting.few known.readable.fitting.word
      (engine_at c e).process fit.sound
      (start_of c e) (run_stands ws ok starts modest known e h) (omega arith) limits (run_deep ws ok starts modest known e h) (run_short ws ok starts modest known e h)
      target l s place spotted (engine_at c e).values notes right

  -- it has one of the nineteen kinds
  pub known_kind : kind (as_node l.process) < 19
  known_kind =
      let fit : FitsEngine (length c.engines) c.issued (engine_at c e) = engine_fits _ known.readable.fitting.engines e h in
      let g : Sound (length c.engines) c.issued l.process =
      (standing ws ok (length c.engines) c.issued known.readable.fitting.few known.readable.fitting.word (engine_at c e).process fit.sound
      (start_of c e) (run_stands ws ok starts modest known e h) (omega arith) limits (run_deep ws ok starts modest known e h) (run_short ws ok starts modest known e h)
      target l s place spotted).process in
      fits_known (as_node_fits known.readable.fitting.few known.readable.fitting.word g {p = reading.anywhere} tt)
