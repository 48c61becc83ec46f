-- Opening a process that fits, by the table of its stratum, changes no word and gives something sound: code by the short table that ends at
-- scope, a process that runs by the whole one. One induction serves both (`good`); `Running` states what follows.
-- Assumes nothing.
use Prim.Native.Nat.{ℕ, zero, suc, ◌+◌, ◌-◌, ◌*◌, ◌%◌, ◌<◌}
use native.Mathlib.Omega.{arith}
use mathlib.Core.Path.{◌≡◌, refl, sym, ap, ◌∙◌}
use mathlib.Core.Bool.{Bool, true, false, not, ◌&&◌, ◌||◌, cond}
use mathlib.Core.List.{List, [], ◌∷◌, ◌++◌, append-nil}
use lib.Dec.{T, leb, ltb, eqb, leb→le, ltb→lt, le→leb, eqb→eq}
use lib.ListN.{get_or, take}
use lib.Ieee.Fits.{and_i, and_l, and_r}
use borrow.Author.Tests.{ne_eqb}
use Rattle.sock.specs.Kind
use Rattle.sock.specs.Kind.{rows, row_of}
use Rattle.sock.specs.Words.{is_word, clear, kind_of, count_of, name_of, second_of, mark_of, zombie_of, first_name, executors_client, dead_of, waiters_server, notices_client, bit, is_one, head_of, name_fields}
use Rattle.sock.specs.Variables.{variable_words, variables_of, distinct}
use Rattle.sock.specs.Term.{Expr, Node, node, Block, absent, list, Entries, Nodes, no_parts, ◌&◌, kind, is_nil, processes_of}
use Rattle.sock.specs.Reading.{Stratum, running, code, Place, anywhere, not_nil, allowed, placed, fields_fit, receives_in, node_fits, scope_fits, end_fits}
use Rattle.sock.specs.Running.{marked_fault, mark_by, scope_head, Run, seq, par, scope, executor, waiter, notice, act, as_node, Form, nil_form, seq_form, par_form, scope_form, executor_form, waiter_form, notice_form, plain, forms, in_form, opened, all_opened}
use Rattle.sock.specs.Frames.{is_done}
use Rattle.sock.proofs.Parts.{part_stratum, part_place}
use Rattle.sock.proofs.Fits.{FitsExprs, no_exprs, FitsFurther, FitsFixed, no_fixed, one_fixed, some_variables, Fits, fits, FitsBlock, no_list, a_list, FitsEntries, FitsParts, no_part, one_part, FitsDistinct, is_plain, Sound, nil_sound, seq_sound, par_sound, scope_sound, executor_sound, waiter_sound, notice_sound, act_sound}
use Rattle.sock.proofs.Fields.{From, end, ◌then◌, fact_at, four, plain_kind, mark_of_lem, resting_fits_lem, bit_is_one, name_below, second_below, scope_head_lem}
use Rattle.sock.proofs.Nodes.{distinct_test, fields_test, node_fits_lem}
use Rattle.sock.proofs.Variables.{variables_same, variables_fit}
use Rattle.sock.proofs.ByKind.{head_tests, at_place, fits_as, recoded, kind_as_node, done_kind}

module _ (n issued : ℕ) where
  -- ---- the strata that open, each by its table

  pub data Opening : Stratum → List Form → Type 0 where
    of_code : Opening (code false) (take 12 forms)
    of_running : Opening (running n issued) forms

  -- a part that is enabled with its node opens as the node does
  abbrev enabled_part : ℕ → ℕ → Bool
  enabled_part k left = eqb k Kind.scope || eqb k Kind.executor || eqb k Kind.par || eqb k Kind.seq && eqb left 1

  onward : {s : Stratum} {t : List Form} → Opening s t → (k left : ℕ) → T (enabled_part k left) → Opening (part_stratum s k left) t
  unfolding part_stratum
  onward of_code k left c = of_code
  onward of_running k left c = go (enabled_part k left) c
    where
      go : (b : Bool) → T b → Opening (cond b (running n issued) (code false)) forms
      go true t = of_running
      go false t = absurd t

  -- the second of a seq is code
  later : {s : Stratum} {t : List Form} → Opening s t → part_stratum s 2 0 ≡ code false
  unfolding part_stratum
  later of_code = refl
  later of_running = refl

  -- ---- a plain process fits in one stratum as in another

  module _ (k : ℕ) (i : T (is_plain k)) (b : k < 15) where
    plain_allowed : {s : Stratum} {t : List Form} → Opening s t → T (allowed s k)
    unfolding allowed
    plain_allowed of_code = le→leb (suc k) 15 b
    plain_allowed of_running = rw (ne_eqb k 15 (omega arith)) (and_i (leb k 18) true (le→leb k 18 (omega arith)) tt)

    plain_part : {s : Stratum} {t : List Form} → Opening s t → (left : ℕ) → part_stratum s k left ≡ code false
    unfolding part_stratum
    plain_part of_code left = refl
    plain_part of_running left = let p = plain_kind k i in rw (p.3, p.2, p.1, ne_eqb k 16 (omega arith))

    plain_node : {s : Stratum} {t : List Form} → Opening s t → (h : ℕ) (f : List ℕ) (l : Block) → kind_of h ≡ k → T (fields_fit s h f l)
    unfolding fields_fit
    plain_node of_code h f l e = rw (e, (plain_kind k i).3) tt
    plain_node of_running h f l e = rw (e, (plain_kind k i).3, ne_eqb k 16 (omega arith), ne_eqb k 17 (omega arith), ne_eqb k 18 (omega arith)) tt

  pub plain_fits :
      {s s' : Stratum} {t t' : List Form} {p p' : Place} {m : Node} →
      Opening s t →
      Opening s' t' →
      T (is_plain (kind m)) →
      kind m < 15 →
      T (placed p' (kind m)) →
      Fits s p m →
      Fits s' p' m
  unfolding processes_of
  plain_fits {s} {s'} {p = p} o o' i b l (fits {h = h} {f} {b = bk} t fx ex bl pt nf) =
      let tests = head_tests s p h t in
      let parts = recoded (λ left. plain_part (kind_of h) i b o left ∙ sym (plain_part (kind_of h) i b o' left)) pt in
      fits_as refl (plain_allowed (kind_of h) i b o', l, tests.2, tests.3) fx ex bl parts
      (node_fits_lem s' h f bk (distinct_test s h f bk nf) (plain_node (kind_of h) i b o' h f bk refl))

  -- ---- the form in which each kind opens

  data Opens : Stratum → ℕ → Form → Type 0 where
    nil_opens : {s : Stratum} → Opens s 0 nil_form
    seq_opens : {s : Stratum} → Opens s 2 seq_form
    par_opens : {s : Stratum} → Opens s 3 par_form
    scope_opens : {s : Stratum} → Opens s 11 scope_form
    executor_opens : Opens (running n issued) 16 executor_form
    waiter_opens : Opens (running n issued) 17 waiter_form
    notice_opens : Opens (running n issued) 18 notice_form
    plain_opens : {s : Stratum} {k : ℕ} → T (is_plain k) → T (ltb k 15) → Opens s k plain

  code_opens : From (λ k. T (allowed (code false) k) → Opens (code false) k (get_or (take 12 forms) k plain)) 19 0
  unfolding forms allowed
  code_opens =
      (λ a. nil_opens) then (λ a. plain_opens tt tt) then (λ a. seq_opens) then (λ a. par_opens)
      then (λ a. plain_opens tt tt) then (λ a. plain_opens tt tt) then (λ a. plain_opens tt tt) then (λ a. plain_opens tt tt)
      then (λ a. plain_opens tt tt) then (λ a. plain_opens tt tt) then (λ a. plain_opens tt tt)
      then (λ a. scope_opens) then (λ a. plain_opens tt tt) then (λ a. plain_opens tt tt) then (λ a. plain_opens tt tt) then absurd
      then absurd then absurd then absurd then end

  running_opens : From (λ k. T (allowed (running n issued) k) → Opens (running n issued) k (get_or forms k plain)) 19 0
  unfolding forms allowed
  running_opens =
      (λ a. nil_opens) then (λ a. plain_opens tt tt) then (λ a. seq_opens) then (λ a. par_opens)
      then (λ a. plain_opens tt tt) then (λ a. plain_opens tt tt) then (λ a. plain_opens tt tt) then (λ a. plain_opens tt tt)
      then (λ a. plain_opens tt tt) then (λ a. plain_opens tt tt) then (λ a. plain_opens tt tt)
      then (λ a. scope_opens) then (λ a. plain_opens tt tt) then (λ a. plain_opens tt tt) then (λ a. plain_opens tt tt) then absurd
      then (λ a. executor_opens) then (λ a. waiter_opens) then (λ a. notice_opens) then end

  opens : {s : Stratum} {t : List Form} → Opening s t → (k : ℕ) → T (allowed s k) → Opens s k (get_or t k plain)
  unfolding allowed
  opens of_code k a = fact_at code_opens k (omega arith) (omega (arith, ltb→lt k 15 a)) a
  opens of_running k a = fact_at running_opens k (omega arith) (omega (arith, leb→le k 18 (and_l (leb k 18) _ a))) a

  plain_form : {s : Stratum} {k : ℕ} {g : Form} → Opens s k g → T (is_plain k) → k < 15 → g ≡ plain
  plain_form nil_opens i b = absurd i
  plain_form seq_opens i b = absurd i
  plain_form par_opens i b = absurd i
  plain_form scope_opens i b = absurd i
  plain_form executor_opens i b = absurd (omega arith)
  plain_form waiter_opens i b = absurd (omega arith)
  plain_form notice_opens i b = absurd (omega arith)
  plain_form (plain_opens i' b') i b = refl

  pub plain_opened : {s : Stratum} {t : List Form} → Opening s t → (m : Node) → T (is_plain (kind m)) → kind m < 15 → opened t m ≡ act m
  unfolding opened in_form
  plain_opened o (node h f es b ps) i l = rw (plain_form (opens o (kind_of h) (plain_allowed (kind_of h) i l o)) i l)

  -- ---- what opening gives

  pub record Good (m : Node) (r : Run) : Type 0 where
    pub same : as_node r ≡ m
    pub sound : Sound n issued r

  pub good_done : {m : Node} {r : Run} → Good m r → is_done r ≡ is_nil m
  good_done g = done_kind g.sound ∙ ap (λ k. eqb k 0) (sym (kind_as_node g.sound) ∙ ap kind g.same)

  not_done : {s : Stratum} {m : Node} {r : Run} → Fits s not_nil m → Good m r → T (not (is_done r))
  unfolding placed
  not_done f g = rw (good_done g) (at_place f)

  good_seq :
      {s : Stratum} {h : ℕ} {a q : Node} {r : Run} →
      kind_of h ≡ 2 →
      T (clear 2048 h) →
      Fits s not_nil a →
      Good a r →
      Fits (code false) anywhere q →
      Good (node h [] [] absent (a & q & no_parts)) (seq r q)
  unfolding as_node
  good_seq {h = h} {a} {q} {r} e cl f g fq =
      let eh : 4096 ≡ h = omega (arith, eqb→eq (h % 2048) 0 cl) in
      let ea : as_node r ≡ a = g.same in
      record { same = cc; sound = seq_sound g.sound (not_done f g) fq }

  good_par :
      {s s' : Stratum} {h : ℕ} {a b : Node} {r q : Run} →
      kind_of h ≡ 3 →
      T (clear 2048 h) →
      Fits s not_nil a →
      Good a r →
      Fits s' not_nil b →
      Good b q →
      Good (node h [] [] absent (a & b & no_parts)) (par r q)
  unfolding as_node
  good_par {h = h} {a} {b} {r} {q} e cl fa ga fb gb =
      let eh : 6144 ≡ h = omega (arith, eqb→eq (h % 2048) 0 cl) in
      let ea : as_node r ≡ a = ga.same in
      let eb : as_node q ≡ b = gb.same in
      record { same = cc; sound = par_sound ga.sound (not_done fa ga) gb.sound (not_done fb gb) }

  -- in both strata the list of a scope passes the test of one that runs
  scope_fits_lem :
      {s : Stratum} {t : List Form} →
      Opening s t →
      (h w : ℕ) (l : Entries) → kind_of h ≡ 11 → T (fields_fit s h (w ∷ []) (list l)) → T (scope_fits (mark_of h) (zombie_of h) (first_name w) l)
  unfolding fields_fit
  scope_fits_lem of_code h w l e t = resting_fits_lem (mark_of h) (zombie_of h) (first_name w) l (rw e at t)
  scope_fits_lem of_running h w l e t = (four (scope_fits (mark_of h) (zombie_of h) (first_name w) l) true true true (rw e at t)).0

  good_scope :
      {h w : ℕ} {l : Entries} {a : Node} {r : Run} →
      kind_of h ≡ 11 →
      T (clear 4 h) →
      T (is_word w && clear 1024 w) →
      FitsEntries true 0 l →
      T (scope_fits (mark_of h) (zombie_of h) (first_name w) l) →
      Good a r →
      Good (node h (w ∷ []) [] (list l) (a & no_parts)) (scope (name_of h) (mark_by (mark_of h) (first_name w)) (is_one (zombie_of h)) l r)
  unfolding as_node
  good_scope {h} {w} {l} {a} {r} e cl fw fl t g =
      let ew : w % 1024 ≡ 0 = eqb→eq (w % 1024) 0 (and_r (is_word w) (clear 1024 w) fw) in
      let bw : w < 65536 = ltb→lt w 65536 (and_l (is_word w) (clear 1024 w) fw) in
      let mark = mark_of_lem (mark_of h) (zombie_of h) (first_name w) l (omega arith) t in
      let z : bit (is_one (zombie_of h)) ≡ zombie_of h = bit_is_one (zombie_of h) (omega arith) in
      let eh : scope_head (name_of h) (mark_by (mark_of h) (first_name w)) (is_one (zombie_of h)) ≡ h = rw (mark.0, z) (scope_head_lem h e (eqb→eq (h % 4) 0 cl)) in
      let ef : marked_fault (mark_by (mark_of h) (first_name w)) * 1024 ≡ w = omega (arith, mark.1) in
      let ea : as_node r ≡ a = g.same in
      record { same = cc; sound = scope_sound (name_below h) mark.2 fl g.sound }

  good_executor :
      {h w v c : ℕ} {u : List ℕ} {a : Node} {r : Run} →
      kind_of h ≡ 16 →
      T (is_word w && clear 8192 w) →
      T (ltb 0 c && leb c 4) →
      FitsFurther (c - 1) u →
      T (fields_fit (running n issued) h (w ∷ v ∷ c ∷ u ++ []) absent) →
      Good a r →
      Good (node h (w ∷ v ∷ c ∷ u ++ []) [] absent (a & no_parts)) (executor (name_of h) (variables_of (second_of h) (c ∷ u ++ [])) (executors_client w) v r)
  unfolding as_node fields_fit variables_of
  good_executor {h} {w} {v} {c} {u} {a} {r} e fw few fu t g =
      let ew : executors_client w * 8192 ≡ w = omega (arith, eqb→eq (w % 8192) 0 (and_r (is_word w) (clear 8192 w) fw)) in
      let eh : head_of Kind.executor (name_fields (name_of h) (second_of h)) ≡ h = omega arith in
      let ea : as_node r ≡ a = g.same in
      let ev : variable_words (variables_of (second_of h) (c ∷ u ++ [])) ≡ c ∷ u ++ [] = variables_same c (second_of h) few fu [] ∙ ap (λ l. c ∷ l) (sym (append-nil u)) in
      let ended = (four true (end_fits n issued (executors_client w) v) true true (rw e at t)).1 in
      record { same = cc; sound = executor_sound (name_below h) (variables_fit c (second_of h) few fu [] (second_below h)) ended g.sound }

  good_waiter :
      {h w v c : ℕ} {u : List ℕ} {l : Entries} →
      kind_of h ≡ 17 →
      T (is_word w && clear 4096 w) →
      T (ltb 0 c && leb c 4) →
      FitsFurther (c - 1) u →
      T (distinct (receives_in h (w ∷ v ∷ c ∷ u ++ []))) →
      T (fields_fit (running n issued) h (w ∷ v ∷ c ∷ u ++ []) (list l)) →
      FitsEntries false 0 l →
      Good (node h (w ∷ v ∷ c ∷ u ++ []) [] (list l) no_parts) (waiter (name_of h) (variables_of (second_of h) (c ∷ u ++ [])) (is_one (dead_of w)) (waiters_server w) v l)
  unfolding as_node fields_fit variables_of receives_in
  good_waiter {h} {w} {v} {c} {u} {l} e fw few fu dx t fl =
      let bw : w < 65536 = ltb→lt w 65536 (and_l (is_word w) (clear 4096 w) fw) in
      let d : bit (is_one (dead_of w)) ≡ dead_of w = bit_is_one (dead_of w) (omega arith) in
      let ew : bit (is_one (dead_of w)) * 32768 + waiters_server w * 4096 ≡ w = omega (arith, eqb→eq (w % 4096) 0 (and_r (is_word w) (clear 4096 w) fw)) in
      let eh : head_of Kind.waiter (name_fields (name_of h) (second_of h)) ≡ h = omega arith in
      let ev : variable_words (variables_of (second_of h) (c ∷ u ++ [])) ≡ c ∷ u ++ [] = variables_same c (second_of h) few fu [] ∙ ap (λ l. c ∷ l) (sym (append-nil u)) in
      let ended = (four true true (end_fits n issued (waiters_server w) v) true (rw e at t)).2 in
      let fx : FitsDistinct (variables_of (second_of h) (c ∷ u ++ [])) =
      record { fitting = variables_fit c (second_of h) few fu [] (second_below h); apart = rw e at dx } in
      record { same = cc; sound = waiter_sound (name_below h) fx ended fl }

  good_notice :
      {h w v : ℕ} →
      kind_of h ≡ 18 →
      T (clear 32 h) →
      T (is_word w && clear 128 w) →
      T (fields_fit (running n issued) h (w ∷ v ∷ []) absent) →
      Good (node h (w ∷ v ∷ []) [] absent no_parts) (notice (name_of h) (first_name w) (notices_client w) v)
  unfolding as_node fields_fit
  good_notice {h} {w} {v} e cl fw t =
      let bw : w < 65536 = ltb→lt w 65536 (and_l (is_word w) (clear 128 w) fw) in
      let bf : first_name w < 64 = omega arith in
      let ew : first_name w * 1024 + notices_client w * 128 ≡ w = omega (arith, eqb→eq (w % 128) 0 (and_r (is_word w) (clear 128 w) fw)) in
      let eh : head_of Kind.notice (name_fields (name_of h) 0) ≡ h = omega (arith, eqb→eq (h % 32) 0 cl) in
      let ended = (four true true true (end_fits n issued (notices_client w) v) (rw e at t)).3 in
      record { same = cc; sound = notice_sound (name_below h) bf ended }

  -- ---- the induction

  -- a part, once opened if it opens
  record Part (t : List Form) (s : Stratum) (p : Place) (m : Node) : Type 0 where
    fitting : Fits s p m
    opening : Opening s t → Good m (opened t m)

  data Parts (t : List Form) (s : Stratum) (k : ℕ) : ℕ → Nodes → Type 0 where
    none_left : Parts t s k zero no_parts
    one_more :
        {left : ℕ} {p : Node} {ps : Nodes} → Part t (part_stratum s k left) (part_place k left) p → Parts t s k left ps → Parts t s k (suc left) (p & ps)

  good_as :
      {s : Stratum} {p : Place} {k : ℕ} {g : Form} {t : List Form} {h : ℕ} {f : List ℕ} {es : List Expr} {b : Block} {ps : Nodes} →
      Opens s k g →
      Opening s t →
      Fits s p (node h f es b ps) →
      kind_of h ≡ k →
      T (clear (row_of k).spare h) →
      FitsFixed (row_of k).fixed f →
      FitsExprs (row_of k).expressions es →
      FitsBlock (eqb k Kind.scope) (row_of k).lists b →
      Parts t s k (cond (eqb k Kind.choice) (count_of h * (row_of k).processes) (row_of k).processes) ps →
      T (node_fits s h f b) →
      Good (node h f es b ps) (in_form g h f es b ps (all_opened t ps))
  unfolding row_of rows all_opened in_form as_node part_place placed
  good_as {h = h} nil_opens o m e cl no_fixed no_exprs no_list none_left nf =
      let eh : 0 ≡ h = omega (arith, eqb→eq (h % 2048) 0 cl) in
      record { same = cc; sound = nil_sound }
  good_as seq_opens o m e cl no_fixed no_exprs no_list (one_more a (one_more q none_left)) nf =
      good_seq e cl a.fitting (a.opening (onward o 2 1 tt)) (rw (later o) at q.fitting)
  good_as par_opens o m e cl no_fixed no_exprs no_list (one_more a (one_more b none_left)) nf =
      good_par e cl a.fitting (a.opening (onward o 3 1 tt)) b.fitting (b.opening (onward o 3 0 tt))
  good_as {s} {h = h} scope_opens o m e cl (one_fixed w no_fixed) no_exprs (a_list l) (one_more a none_left) nf =
      good_scope e cl w l (scope_fits_lem o h _ _ e (fields_test s h _ _ nf)) (a.opening (onward o 11 0 tt))
  good_as executor_opens o m e cl (one_fixed w (one_fixed v (some_variables few u no_fixed))) no_exprs no_list (one_more a none_left) nf =
      good_executor e w few u (fields_test _ _ _ _ nf) (a.opening (onward o 16 0 tt))
  good_as waiter_opens o m e cl (one_fixed w (one_fixed v (some_variables few u no_fixed))) no_exprs (a_list l) none_left nf = good_waiter e w few u (distinct_test _ _ _ _ nf) (fields_test _ _ _ _ nf) l
  good_as notice_opens o m e cl (one_fixed w (one_fixed v no_fixed)) no_exprs no_list none_left nf = good_notice e cl w (fields_test _ _ _ _ nf)
  good_as {k = k} {h = h} {f} {es} {b} {ps} (plain_opens i l) o m e cl fx ex bl pt nf =
      let ik : T (is_plain (kind (node h f es b ps))) = rw e i in
      record { same = refl; sound = act_sound ik (plain_fits o of_code ik (omega (arith, ltb→lt k 15 l)) tt m) }

  mutual
    unfolding opened all_opened processes_of

    pub good : {s : Stratum} {p : Place} {m : Node} → Fits s p m → (t : List Form) → Opening s t → Good m (opened t m)
    good (fits {s} {p} {h} hd fx ex bl pt nf) t o =
        let tests = head_tests s p h hd in
        good_as (opens o (kind_of h) tests.0) o (fits {p = p} hd fx ex bl pt nf) refl tests.2 fx ex bl (all_good pt t) nf

    all_good : {s : Stratum} {k c : ℕ} {ps : Nodes} → FitsParts s k c ps → (t : List Form) → Parts t s k c ps
    all_good no_part t = none_left
    all_good (one_part f fs) t = one_more (record { fitting = f; opening = λ o. good f t o }) (all_good fs t)
