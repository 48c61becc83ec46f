-- What a rule alone makes: the edit for the engine's process, and its values.
-- Assumes nothing.
use Prim.Native.Nat.{ℕ, zero, suc, ◌+◌, ◌-◌, ◌*◌, ◌≤◌, ◌<◌}
use native.Mathlib.Omega.{arith}
use mathlib.Core.Path.{◌≡◌, refl, subst, sym, ap, ◌∙◌}
use mathlib.Core.Bool.{Bool, true, false, cond}
use mathlib.Core.Option.{Option, none, some}
use mathlib.Core.List.{List, [], ◌∷◌, ◌++◌}
use borrow.Author.Tests.{le-ltb}
use lib.Dec.{eqb, lit<}
use lib.ListN.{length, get_or, drop, set, length-drop, length-set}
use lib.Seq.{take_all, get_or-drop}
use Rattle.sock.specs.Words.{kind_of, variable_of, name_of, scope_key}
use Rattle.sock.specs.Term.{Expr, Node, node, Nodes, absent, list, Entries, no_parts, ◌&◌, kind}
use Rattle.sock.specs.Layout.{words, depth}
use Rattle.sock.specs.Reading.{code, anywhere}
use Rattle.sock.specs.Running.{Mark, Run, nil, seq, par, scope, executor, waiter, notice, act, as_node, run_words, size, run_depth, enable}
use Rattle.sock.specs.Configuration.{Engine, Config, values_words, engines_depth}
use Rattle.sock.specs.Calls.{engine_at}
use Rattle.sock.specs.Variables.{values_at}
use Rattle.sock.specs.Evaluation.{evaluate, is_true}
use Rattle.sock.specs.Frames.{Located, is_done, seq_of, plug, nearest, on_nearest}
use Rattle.sock.specs.Handlers.{handler, without, update}
use Rattle.sock.specs.Rules.{climb, action, Message, reply, Move, stuck, alone, unvalued, sends, ending, valued as valuing, acting, once_done, move_of}
use Rattle.sock.proofs.Logic.{all_some_lem}
use Rattle.sock.proofs.Fits.{Fits, FitsExpr, FitsEntries, AllBelow, FitsEngine, Sound, act_sound, no_frames}
use Rattle.sock.proofs.Frames.{Stands, locate_sound}
use Rattle.sock.proofs.Located.{engine_fits, start_of}
use Rattle.sock.proofs.Running.{enable_as_node}
use Rattle.sock.proofs.Measures.{words_act, depth_nil, depth_act}
use Rattle.sock.proofs.ByKind.{run_kind, kind_as_node}
use Rattle.reading.specs.Survey.{Starts}
use Rattle.reading.proofs.Combining.{Words}
use Rattle.reading.proofs.Known.{Known}
use Rattle.reading.specs.Walk.{process_end}
use Rattle.skipping.proofs.Notes.{Right}
use Rattle.writers.specs.Writing.{pasted, pasted_end}
use Rattle.evaluating.specs.declared.evaluate.Valued.{Valued}
use Rattle.evaluating.specs.Valuing.{value_as}
use Rattle.writers.proofs.Laid.{Near, near_of, near_below}
use Rattle.handling.proofs.Leaves.{pasted_keeps}
use Rattle.finding.specs.declared.find.Site.{Site}
use Rattle.finding.specs.Find.{fault_at}
use Rattle.finding.proofs.Within.{within, within_locate}
use Rattle.finding.proofs.Spots.{Spotted}
use Rattle.finding.proofs.Edits.{part, process_at}
use Rattle.rules.specs.Storing.{takes, unchanged}
use Rattle.rules.specs.Rewriting.{Rewriting}
use Rattle.rules.specs.Rewriting.{rewritten, vanishing, keeping, refused, at, part_w, assign_w, part_end, branch_w, unroll_w, repeat_w}
use Rattle.layout.specs.Positions.{onward}
use Rattle.rules.specs.Editing.{Edited, edited, refused_edit, plain_w}
use Rattle.rules.proofs.Rewrites.{Becomes, becomes_nil, Outcome, deepens, becomes, valued_at, expr_value, assign_rewrites, branch_rewrites, repeat_rewrites}
use Rattle.rules.proofs.Edits.{done_nil}
use Rattle.rules.proofs.Stores.{stored, stored_none, stored_one}
use Rattle.rules.proofs.Shapes.{Shape, assigns, branches, repeats, chooses, hears, serves, notifies, solicits, installs, throws, compensates, shape}
use Rattle.rules.proofs.Outcomes.{Ruled, becomes_ruled, outcome_ruled}
use Rattle.scopes.proofs.ScopeLists.{whole_inside, frames_deep, process_inside, level_low}
use Rattle.scopes.proofs.Compensates
use Rattle.scopes.proofs.Installs
use Rattle.scopes.proofs.Throws.{thrown_ruled}
use Rattle.scopes.proofs.Ends.{ends}
use Rattle.scopes.proofs.Scratch.{Roomy, Spacious}
use Rattle.layout.specs.declared.limit.Limits.{Limits}
use Rattle.layout.specs.Limits.{figures}
use Rattle.rules.proofs.Depths.{Shallow}
use Rattle.rules.specs.declared.edit.Side.{Side}
use Rattle.stepping.proofs.Modest.{Modest}
use Rattle.stepping.specs.Exchanging.{lent}
use Rattle.stepping.specs.Alone.{when_valued, settled_w, rewritten_w, valued_w, scoped_w, rule_w}
use Rattle.stepping.proofs.Results.{one_stands, one_behind, one_values}

-- no engine is deeper than all
engine_depth : (es : List Engine) (e : ℕ) (d : Engine) → e < length es → run_depth (get_or es e d).process ≤ engines_depth es
unfolding engines_depth
engine_depth [] e d h = absurd (omega arith)
engine_depth (g ∷ gs) zero d h = omega arith
engine_depth (g ∷ gs) (suc e) d h = omega (arith, engine_depth gs e d (omega arith))

-- code that becomes enabled is as deep as it was
enabled_depth : {m : Node} → Fits (code false) anywhere m → run_depth (enable m) ≡ depth m
unfolding run_depth
enabled_depth f = ap depth (enable_as_node f)

-- no rewriting of an if takes a value
part_none : (ws : List ℕ) (from upto end : ℕ) → (part_w ws from upto end unchanged).store ≡ unchanged
unfolding part_w
part_none ws from upto end = by (eqb (at ws from) 0)
  where
    by : (b : Bool) → (cond b (vanishing unchanged) (keeping 0 from upto end unchanged)).store ≡ unchanged
    by true = refl
    by false = refl

branch_none : (ws : List ℕ) (e : Valued) → (branch_w ws e).store ≡ unchanged
unfolding branch_w
branch_none ws e = by (eqb e.value 0)
  where
    by : (b : Bool) →
        (let middle : ℕ = part_end ws e.end in
        let last : ℕ = part_end ws middle in
        (cond b (part_w ws middle last last unchanged) (part_w ws e.end middle last unchanged)).store ≡ unchanged)
    by true = part_none ws _ _ _
    by false = part_none ws _ _ _

plain_number : (s : Site) (start : ℕ) (t : Rewriting) (fresh : List ℕ) → t.nil ≡ false → (plain_w s start t fresh).edit.number ≡ t.number
unfolding plain_w
plain_number s start t fresh e = rw e (by (eqb t.number 0))
  where
    by : (b : Bool) → (cond b (edited (record {
      number = t.number;
      list = start;
      past = start;
      listed = 0;
      from = s.at;
      upto = onward s.at t.from;
      fresh = t.fresh;
      gap = onward s.at t.upto;
      end = onward s.at t.end;
      store = t.store;
    }) fresh) (edited (refused_edit t.number) fresh)).edit.number ≡ t.number
    by true = refl
    by false = refl

-- a while keeps the scratch's length
repeat_keeps : (limits : Limits) (level bound : ℕ) (ws : List ℕ) (e : Valued) (fresh : List ℕ) → length (repeat_w limits level bound ws e fresh).fresh ≡ length fresh
unfolding repeat_w unroll_w
repeat_keeps limits level bound ws e fresh =
    by (eqb e.value 0) (eqb (at ws e.end) 0) (eqb (process_end (limits.deepest - level) ws bound 0 0) 0)
  where
    by : (a b c : Bool) →
        (let end : ℕ = part_end ws e.end in
        length
        (cond a (rewritten (vanishing unchanged) fresh)
        (cond b (rewritten (keeping 0 0 end end unchanged) fresh)
        (cond c (rewritten (refused 8) fresh)
        (rewritten (keeping (pasted_end ws e.end end 1) 0 end end unchanged) (pasted ws e.end end (set fresh 0 4096) 1))))).fresh
        ≡ length fresh)
    by true b c = refl
    by false true c = refl
    by false false true = refl
    by false false false = pasted_keeps ws _ _ (set fresh 0 4096) 1 ∙ length-set fresh 0 4096

pub words_part : (ws : List ℕ) (i : ℕ) → Words ws → Words (drop i ws)
words_part ws i ok k = subst (λ (w : ℕ). w < 65536) (sym (get_or-drop i ws k 0)) (ok (i + k))

module _ (ws : List ℕ) (ok : Words ws) (n issued : ℕ) (few : n ≤ 8) (small : issued < 65536) (r : Run) (sound : Sound n issued r)
    (start : ℕ) (words_at : drop start ws ≡ run_words r ++ drop (start + size r) ws) (low : 64 ≤ start) (limits : Limits) (deep : Shallow limits.deepest r)
    (short : length ws ≤ 8192) (target : ℕ) (l : Located) (s : Site) (place : within r start target ≡ some l)
    (spotted : Spotted (fault_at ws target) target r start 1 l s) where
  pub near : Near (length ws)
  near = near_below (length ws) 8192 (near_of 8192 (lit< tt)) short

  pub standing : Stands n issued l
  standing =
      let b : start ≤ target = omega (arith, spotted.swap.from) in
      all_some_lem (locate_sound sound (target - start) no_frames) (sym (within_locate r start target b) ∙ place)

  abbrev pub rest : List ℕ
  rest = (process_at (fault_at ws target) target r start 1 l s ws (drop (start + size r) ws) words_at spotted).0

  pub part_at : drop s.at ws ≡ run_words l.process ++ rest
  part_at =
      ap (λ i. drop i ws) spotted.at
      ∙ (process_at (fault_at ws target) target r start 1 l s ws (drop (start + size r) ws) words_at spotted).1

  -- the process ends within the words
  pub inside : s.at + size l.process ≤ length ws
  inside =
      omega (
        arith,
        spotted.at,
        process_inside (fault_at ws target) target r start l s ws words_at spotted near standing.frames deep,
        whole_inside (fault_at ws target) target r start l s ws words_at spotted near standing.frames deep,
      )

  pub part_lent : lent s.at (length ws) ws ≡ drop s.at ws
  part_lent = take_all (length ws - s.at) (drop s.at ws) (omega (arith, length-drop s.at ws))

  pub process_deep : length l.frames + run_depth l.process ≤ limits.deepest
  process_deep = (frames_deep (fault_at ws target) target r start l s ws words_at spotted near standing.frames deep).1

  its_level : s.level ≡ 1 + length l.frames
  its_level = spotted.level

  level : s.level ≤ limits.deepest
  level = level_low (fault_at ws target) target r start l s ws words_at spotted near standing.frames deep

  abbrev bound : ℕ
  bound = n * 65536 + issued

  module _ (end : ℕ) (vs : List ℕ) (below : AllBelow 4294967296 vs) (values : part (start - 64) start ws ≡ values_words vs)
      (notes : List ℕ) (right : Right ws notes) (fresh : List ℕ) (room : Roomy ws fresh)
      (wide : Spacious (rule_w limits ws notes (record { start = start; end = end; site = s }) (kind (as_node l.process)) bound fresh) fresh) (big : Near (length fresh)) where
    abbrev side : Side
    side = record { start = start; end = end; site = s }

    -- what the rule makes, if it moves alone
    abbrev Makes : Edited → Move → Type 0
    Makes u stuck = Unit {0}
    Makes u (alone vs' q) =
        Ruled limits.deepest ws start (start + size r) u.edit u.fresh q × (u.edit.number ≡ 0 → vs' ≡ stored vs u.edit.store)
    Makes u unvalued = u.edit.number ≡ 13
    Makes u (sends m) = Unit {0}

    -- no value changes
    still : (u : Edited) (q : Option Run) →
        Ruled limits.deepest ws start (start + size r) u.edit u.fresh q × (u.edit.store ≡ unchanged) → Makes u (alone vs q)
    still u q (a, b) = (a, λ z. sym (stored_none vs u.edit.store (ap (λ s. s.variable) b)))

    made_scope : (name : ℕ) (mark : Mark) (zombie : Bool) (h : Entries) (a : Run) → l.process ≡ scope name mark zombie h a →
        (b : Bool) → is_done a ≡ b →
        Makes (rule_w limits ws notes side 11 bound fresh) (cond b (alone vs (some (ending name mark zombie h l.frames))) stuck)
    unfolding rule_w scoped_w
    made_scope name mark zombie h a is false e = tt
    made_scope name mark zombie h a is true e =
        still _ _ (ends (fault_at ws target) target r start l s ws notes right words_at spotted near standing.frames deep (omega arith)
        few small short fresh room big sound name mark zombie h (is ∙ ap (scope name mark zombie h) (done_nil a e)))

    made_executor : (b : Bool) (u : Edited) (m : Message) → Makes u (cond b (sends m) stuck)
    made_executor true u m = tt
    made_executor false u m = tt

    -- assign, if and while
    plain_rule : (k : ℕ) → k ≤ 6 →
        (let t = rewritten_w limits (drop s.at ws) (values_words vs) s.level k bound fresh in
        rule_w limits ws notes side k bound fresh ≡ plain_w s start t.rewriting t.fresh)
    unfolding rule_w valued_w
    plain_rule k h =
        let fits = whole_inside (fault_at ws target) target r start l s ws words_at spotted near standing.frames deep in
        rw (
          le-ltb 6 k h,
          le-ltb start 64 low,
          le-ltb (length ws) start (omega (arith, fits)),
          le-ltb (length ws) s.at (omega (arith, inside)),
          part_lent,
          values,
        )

    -- the process becomes q, and no value changes
    turns : (q : Run) (t : Rewriting) (made : List ℕ) → length made ≡ length fresh → Becomes l.process q t made → t.store ≡ unchanged →
        s.level + run_depth q ≤ suc limits.deepest → Makes (plain_w s start t made) (alone vs (some (plug l.frames q)))
    turns q t made same b x high =
        let u = becomes_ruled (fault_at ws target) target r start l s ws words_at spotted near standing.frames deep q t made
        (omega arith) (rw same big) b high in
        still (plain_w s start t made) (some (plug l.frames q)) (u.0, u.1 ∙ x)

    -- the words of a node, and its depth
    node_at : (m : Node) → l.process ≡ act m → drop s.at ws ≡ words m ++ rest
    node_at m is = part_at ∙ ap (λ w. w ++ rest) (ap run_words is ∙ words_act m)

    node_deep : (m : Node) → l.process ≡ act m → s.level + depth m ≤ suc limits.deepest
    node_deep m is = omega (arith, process_deep, its_level, ap run_depth is ∙ depth_act m)

    -- by the value of its expression; 13 where it has none
    by_value : (k : ℕ) → k ≤ 6 → (h : ℕ) (e : Expr) (ps : Nodes) → FitsExpr e → l.process ≡ act (node h [] (e ∷ []) absent ps) → (move : ℕ → Move) →
        ((v : ℕ) →
        (let t = settled_w limits (drop s.at ws) (valued_at h e v) s.level k bound fresh in
        Makes (plain_w s start t.rewriting t.fresh) (move v))) →
        Makes (rule_w limits ws notes side k bound fresh) (valuing (evaluate vs e) move)
    unfolding rewritten_w settled_w plain_w valuing
    by_value k low h e ps g is move settled =
        let m : Node = node h [] (e ∷ []) absent ps in
        let value = expr_value n issued (drop s.at ws) (words_part ws s.at ok) few small vs below rest h e ps g
        (omega (arith, node_deep m is, deep.low)) (node_at m is) in
        rw (plain_rule k low, value) (go (evaluate vs e))
      where
        go : (o : Option ℕ) →
            (let t = when_valued (value_as o) (λ v. settled_w limits (drop s.at ws) (valued_at h e v) s.level k bound fresh) fresh in
            Makes (plain_w s start t.rewriting t.fresh) (valuing o move))
        go none = refl
        go (some v) = settled v

    made_assign : (h : ℕ) (e : Expr) → FitsExpr e → l.process ≡ act (node h [] (e ∷ []) absent no_parts) →
        Makes (rule_w limits ws notes side 1 bound fresh) (valuing (evaluate vs e) λ v. alone (set vs (variable_of h) v) (some (plug l.frames nil)))
    unfolding settled_w
    made_assign h e g is =
        by_value 1 (omega arith) h e no_parts g is _ λ v.
        let m : Node = node h [] (e ∷ []) absent no_parts in
        let x : ℕ = variable_of h in
        let turn : assign_w (drop s.at ws) (valued_at h e v) ≡ vanishing (takes x v) =
        assign_rewrites n issued (drop s.at ws) (words_part ws s.at ok) few small vs below rest h e g
        (omega (arith, node_deep m is, deep.low)) (node_at m is) v in
        let u = becomes_ruled (fault_at ws target) target r start l s ws words_at spotted near standing.frames deep nil
        (vanishing (takes x v)) fresh (omega arith) big (becomes_nil l.process (takes x v) fresh) (omega (arith, depth_nil, level)) in
        rw turn (u.0, λ z. sym (ap (stored vs) u.1 ∙ stored_one vs x v (omega arith)))

    made_branch : (h : ℕ) (e : Expr) (p q : Node) → FitsExpr e → Fits (code false) anywhere p → Fits (code false) anywhere q →
        l.process ≡ act (node h [] (e ∷ []) absent (p & q & no_parts)) →
        Makes (rule_w limits ws notes side 4 bound fresh)
        (valuing (evaluate vs e) λ v. alone vs (some (plug l.frames (enable (cond (is_true v) p q)))))
    unfolding settled_w depth
    made_branch h e p q g fp fq is =
        by_value 4 (omega arith) h e (p & q & no_parts) g is _ λ v.
        let m : Node = node h [] (e ∷ []) absent (p & q & no_parts) in
        let b = branch_rewrites n issued (drop s.at ws) (words_part ws s.at ok) few small vs below rest h e p q g fp fq
        (omega (arith, node_deep m is, deep.low)) (node_at m is) fresh v in
        turns (enable (cond (is_true v) p q)) (branch_w (drop s.at ws) (valued_at h e v)) fresh refl
        (rw is b) (branch_none (drop s.at ws) (valued_at h e v)) (by (is_true v))
      where
        by : (b : Bool) → s.level + run_depth (enable (cond b p q)) ≤ suc limits.deepest
        by true = omega (arith, enabled_depth fp, node_deep (node h [] (e ∷ []) absent (p & q & no_parts)) is)
        by false = omega (arith, enabled_depth fq, node_deep (node h [] (e ∷ []) absent (p & q & no_parts)) is)

    made_repeat : (h : ℕ) (e : Expr) (p : Node) → kind_of h ≡ 5 → FitsExpr e → Fits (code false) anywhere p →
        Fits (code false) anywhere (node h [] (e ∷ []) absent (p & no_parts)) →
        l.process ≡ act (node h [] (e ∷ []) absent (p & no_parts)) →
        Makes (rule_w limits ws notes side 5 bound fresh)
        (valuing (evaluate vs e) λ v.
        alone vs (some (plug l.frames (cond (is_true v) (seq_of (enable p) (node h [] (e ∷ []) absent (p & no_parts))) nil))))
    unfolding settled_w
    made_repeat h e p k g fp f is =
        by_value 5 (omega arith) h e (p & no_parts) g is _ λ v.
        let m : Node = node h [] (e ∷ []) absent (p & no_parts) in
        let o = repeat_rewrites n issued (drop s.at ws) (words_part ws s.at ok) few small vs below rest h k e p g fp
        (omega (arith, node_deep m is, deep.low)) (node_at m is) f fresh (omega (arith, length-drop s.at ws)) big
        limits s.level (node_deep m is) level v in
        by (cond (is_true v) (seq_of (enable p) m) nil) _ _
        (repeat_keeps limits s.level bound (drop s.at ws) (valued_at h e v) fresh) (rw is o)
      where
        by : (q : Run) (t : Rewriting) (made : List ℕ) → length made ≡ length fresh → Outcome limits.deepest l.process s.level q t made →
            Makes (plain_w s start t made) (alone vs (some (plug l.frames q)))
        by q t made same (becomes b x high) = turns q t made same b x high
        by q t made same (deepens a b c d) = (
          outcome_ruled (fault_at ws target) target r start l s ws words_at spotted near standing.frames deep q t made
              (omega arith) (rw same big)
              (deepens a b c d),
          λ z. absurd (omega (arith, z, a, plain_number s start t made b)),
        )

    -- inst, throw and comp
    made_install : (h : ℕ) (new : Entries) → kind_of h ≡ 12 → FitsEntries false zero new → l.process ≡ act (node h [] [] (list new) no_parts) →
        Makes (rule_w limits ws notes side 12 bound fresh) (alone vs (some (plug (on_nearest (λ x. update x new) l.frames) nil)))
    unfolding rule_w scoped_w as_node
    made_install h new k fit is =
        still _ _ (Installs.installs (fault_at ws target) target r start l s ws notes right words_at spotted near standing.frames limits deep (omega arith)
        short fresh (omega (arith, room.few)) big h new is fit
        (let e : kind (as_node l.process) ≡ 12 = ap (λ p. kind (as_node p)) is ∙ k in rw e at wide))

    made_throw : (h : ℕ) → kind_of h ≡ 13 → l.process ≡ act (node h [] [] absent no_parts) →
        Makes (rule_w limits ws notes side 13 bound fresh) (alone vs (climb (name_of h) l.frames nil))
    unfolding rule_w scoped_w
    made_throw h k is =
        still _ _ (thrown_ruled ws notes right n issued few small sound start words_at (omega arith) deep short fresh room big target l s
        place spotted (node h [] [] absent no_parts) is k)

    made_compensate : (h : ℕ) → l.process ≡ act (node h [] [] absent no_parts) →
        Makes (rule_w limits ws notes side 14 bound fresh)
        (alone vs
        (some (plug (on_nearest (without (scope_key (name_of h))) l.frames)
        (enable (handler (scope_key (name_of h)) (nearest l.frames))))))
    unfolding rule_w scoped_w
    made_compensate h is =
        still _ _
        (Compensates.compensates (fault_at ws target) target r start l s ws notes right words_at spotted near standing.frames limits deep (omega arith)
        ok few small short fresh room big h is)

    made_act : (m : Node) → l.process ≡ act m → Fits (code false) anywhere m → Shape m →
        Makes (rule_w limits ws notes side (kind m) bound fresh) (acting vs l.frames m (action m))
    unfolding action acting
    made_act m is f (assigns {h} {e} k g) = rw k (made_assign h e g is)
    made_act m is f (branches {h} {e} {p} {q} k g fp fq) = rw k (made_branch h e p q g fp fq is)
    made_act m is f (repeats {h} {e} {p} k g fp) = rw k (made_repeat h e p k g fp f is)
    made_act m is f (chooses k c pt) = rw k tt
    made_act m is f (hears k x) = rw k tt
    made_act m is f (serves k t x y fp) = rw k tt
    made_act m is f (notifies k t y) = rw k tt
    made_act m is f (solicits k t y x fl) = rw k tt
    made_act m is f (installs {h} {l = new} k t fl) = rw k (made_install h new k fl is)
    made_act m is f (throws {h} k t) = rw k (made_throw h k is)
    made_act m is f (compensates {h} k t) = rw k (made_compensate h is)

    made : (p : Run) → l.process ≡ p → Sound n issued p → Makes (rule_w limits ws notes side (run_kind p) bound fresh) (move_of vs l.frames p)
    unfolding move_of once_done
    made nil is g = tt
    made (seq a q) is g = tt
    made (par a b) is g = tt
    made (scope name mark zombie h a) is g = made_scope name mark zombie h a is (is_done a) refl
    made (executor o y client serial a) is g = made_executor (is_done a) _ (reply o (values_at vs y) client serial)
    made (waiter o x dead server serial q) is g = tt
    made (notice o f client serial) is g = tt
    made (act m) is (act_sound i f) = made_act m is f (shape i f)

    -- the rule, whatever it is
    pub lone :
        (vs' : List ℕ) (q : Option Run) → move_of vs l.frames l.process ≡ alone vs' q →
        (let u = rule_w limits ws notes side (kind (as_node l.process)) bound fresh in
        Ruled limits.deepest ws start (start + size r) u.edit u.fresh q × (u.edit.number ≡ 0 → vs' ≡ stored vs u.edit.store))
    lone vs' q e =
        rw (kind_as_node standing.process)
        (subst (Makes (rule_w limits ws notes side (run_kind l.process) bound fresh)) e (made l.process refl standing.process))

    pub none_made :
        move_of vs l.frames l.process ≡ unvalued → (rule_w limits ws notes side (kind (as_node l.process)) bound fresh).edit.number ≡ 13
    none_made e =
        rw (kind_as_node standing.process)
        (subst (Makes (rule_w limits ws notes side (run_kind l.process) bound fresh)) e (made l.process refl standing.process))

-- in a configuration that is known
module _ (ws : List ℕ) (ok : Words ws) (starts : Starts) {limits : Limits} (modest : Modest limits) (known : Known (figures limits) ws starts) (e : ℕ)
    (h : e < length known.config.engines) where
  abbrev c : Config
  c = known.config

  abbrev run : Run
  run = (engine_at c e).process

  fit : FitsEngine (length c.engines) c.issued (engine_at c e)
  fit = engine_fits _ known.readable.fitting.engines e h

  pub run_stands : drop (start_of c e) ws ≡ run_words run ++ drop (start_of c e + size run) ws
  run_stands =
      one_stands c known.readable.fitting e h ws known.same
      ∙ ap (λ x. run_words run ++ x) (sym (one_behind c known.readable.fitting e h ws known.same))

  pub run_deep : Shallow limits.deepest run
  run_deep =
      record { low = modest.low; kept = omega (arith, engine_depth c.engines e (record { values = []; process = nil }) h, known.readable.shallow) }

  pub run_short : length ws ≤ 8192
  run_short = omega (arith, rw known.same at known.readable.short, modest.few)

  module _ (target : ℕ) (l : Located) (s : Site) (place : within run (start_of c e) target ≡ some l)
      (spotted : Spotted (fault_at ws target) target run (start_of c e) 1 l s) where
    pub known_lone :
        (end : ℕ) (notes : List ℕ) → Right ws notes → (fresh : List ℕ) → Roomy ws fresh →
        Spacious (rule_w limits ws notes (record { start = start_of c e; end = end; site = s }) (kind (as_node l.process)) (length c.engines * 65536 + c.issued) fresh) fresh →
        Near (length fresh) →
        (vs' : List ℕ) (q : Option Run) → move_of (engine_at c e).values l.frames l.process ≡ alone vs' q →
        (let u = rule_w limits ws notes (record { start = start_of c e; end = end; site = s }) (kind (as_node l.process)) (length c.engines * 65536 + c.issued) fresh in
        Ruled limits.deepest ws (start_of c e) (start_of c e + size run) u.edit u.fresh q
        × (u.edit.number ≡ 0 → vs' ≡ stored (engine_at c e).values u.edit.store))
    known_lone end notes right fresh room wide big =
        lone ws ok (length c.engines) c.issued known.readable.fitting.few known.readable.fitting.word run fit.sound
        (start_of c e) run_stands (omega arith) limits run_deep run_short target l s place spotted end (engine_at c e).values
        fit.bounded (one_values c known.readable.fitting e h ws known.same)
        notes right fresh room wide big

    pub known_unvalued :
        (end : ℕ) (notes : List ℕ) → Right ws notes → (fresh : List ℕ) → Roomy ws fresh →
        Spacious (rule_w limits ws notes (record { start = start_of c e; end = end; site = s }) (kind (as_node l.process)) (length c.engines * 65536 + c.issued) fresh) fresh →
        Near (length fresh) → move_of (engine_at c e).values l.frames l.process ≡ unvalued →
        (rule_w limits ws notes (record { start = start_of c e; end = end; site = s }) (kind (as_node l.process)) (length c.engines * 65536 + c.issued) fresh).edit.number ≡ 13
    known_unvalued end notes right fresh room wide big =
        none_made ws ok (length c.engines) c.issued known.readable.fitting.few known.readable.fitting.word run fit.sound
        (start_of c e) run_stands (omega arith) limits run_deep run_short target l s place spotted end (engine_at c e).values
        fit.bounded (one_values c known.readable.fitting e h ws known.same)
        notes right fresh room wide big
