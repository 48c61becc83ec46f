-- What killing on words gives of the ends, and of what becomes nil: a waiter turns dead, a notice stays, an executor leaves a notice.
-- Assumes nothing.
use Prim.Native.Nat.{ℕ, ◌+◌, ◌-◌, ◌*◌, ◌≤◌, ◌<◌}
use native.Mathlib.Omega.{arith}
use mathlib.Core.Path.{◌≡◌, refl, sym, ap, ◌∙◌}
use mathlib.Core.Bool.{Bool, true, false, cond}
use mathlib.Core.Option.{Option, some}
use mathlib.Core.List.{List, [], ◌∷◌, ◌++◌}
use lib.ListN.{length, get_or, set, drop, length-set}
use borrow.Author.Tests.{le-ltb, lt-leb, ne_eqb}
use lib.Dec.{eqb}
use Rattle.sock.specs.Kind
use Rattle.sock.specs.Words.{bit, head_of, name_fields}
use Rattle.sock.specs.Variables.{first_of, variable_words}
use Rattle.sock.specs.Term.{Entries}
use Rattle.sock.specs.Layout.{entries_words}
use Rattle.sock.specs.Running.{Run, nil, par, executor, waiter, notice, run_words, size}
use Rattle.sock.specs.Frames.{is_done, par_of}
use Rattle.sock.specs.Rules.{also}
use Rattle.sock.proofs.Fields.{bit_below}
use Rattle.sock.proofs.Measures.{words_nil, words_par, words_executor, words_waiter, words_notice, size_nil, size_par, size_executor, size_waiter, size_notice}
use Rattle.sock.proofs.Located.{size_positive}
use Rattle.skipping.specs.Pass.{pass_end}
use Rattle.layout.specs.Killed.{notice_head, notice_word}
use Rattle.layout.specs.Own.{own_end}
use Rattle.writers.specs.Writing.{pasted}
use Rattle.killing.specs.Killing.{Killed, Walk, made, dead_word, waiter_w, kept_w, vanished_w, notice_w, executor_on, executor_w}
use Rattle.writers.proofs.Laid.{Near, onward_near, Laid, laid_put, laid_then, laid_again, laid_set, laid_copy, copy_end}
use Rattle.sock.proofs.Positions.{stands_within, word_at}
use Rattle.killing.proofs.Gives.{Gives, stops, gives, Does, longer, vanishes, goes_stops, goes_on}

-- ---- what becomes nil

pub vanish_gives :
    (r : Run) (d : ℕ) (ws notes : List ℕ) (at : ℕ) (out : List ℕ) (to : ℕ) →
    pass_end d ws notes at ≡ at + size r → to + 2 * size r ≤ length out → Near (length out) →
    Gives r out to (at + size r) (vanished_w d ws notes at out to) (some nil)
unfolding vanished_w is_done
vanish_gives r d ws notes at out to e room near =
    let p = size_positive r in
    gives (record {
      ends = e;
      done = ap (λ n. eqb n 1) size_nil;
      reaches = onward_near to 1 (length out) near (omega arith) ∙ ap (λ n. to + n) (sym size_nil);
      laid = rw words_nil (laid_put out to 0 (omega arith));
      small = let z = size_nil in omega arith;
    })

-- ---- a notice

module _ (ws rest : List ℕ) (at : ℕ) (out : List ℕ) (to : ℕ) (near : Near (length out)) where
  pub kept_gives :
      (o f client serial : ℕ) → drop at ws ≡ run_words (notice o f client serial) ++ rest → to + 2 * size (notice o f client serial) ≤ length out →
      Gives (notice o f client serial) out to (at + size (notice o f client serial)) (kept_w ws at out to) (some (notice o f client serial))
  unfolding kept_w is_done size
  kept_gives o f client serial e room =
      let r : Run = notice o f client serial in
      let z : size r ≡ 3 = size_notice o f client serial in
      let w = stands_within ws (run_words r) rest at e (omega arith) in
      let u : at + 3 ≡ at + length (run_words r) = omega arith in
      rw (lt-leb (length ws) at (omega arith))
      (gives (record {
        ends = u;
        done = longer (size r) (omega arith);
        reaches = copy_end ws (run_words r) rest at (at + 3) to (length out) e (omega arith) u near (omega arith);
        laid = laid_copy ws (run_words r) rest at (at + 3) out to e (omega arith) u (omega arith);
        small = omega arith;
      }))

  -- ---- a waiter

  dead_word_lem : (dead : Bool) (server : ℕ) → server < 8 → dead_word (bit dead * 32768 + server * 4096) ≡ bit true * 32768 + server * 4096
  dead_word_lem dead server b = omega (arith, bit_below dead)

  pub waiter_gives :
      (notes : List ℕ) (d o : ℕ) (x : List ℕ) (dead : Bool) (server serial : ℕ) (l : Entries) → server < 8 →
      drop at ws ≡ run_words (waiter o x dead server serial l) ++ rest →
      pass_end d ws notes at ≡ at + size (waiter o x dead server serial l) →
      to + 2 * size (waiter o x dead server serial l) ≤ length out →
      Gives (waiter o x dead server serial l) out to (at + size (waiter o x dead server serial l)) (waiter_w d ws notes at out to) (some (waiter o x true server serial l))
  unfolding waiter_w is_done size
  waiter_gives notes d o x dead server serial l b e q room =
      let r : Run = waiter o x dead server serial l in
      let s : Run = waiter o x true server serial l in
      let z : size r ≡ 4 + length (variable_words x) + length (entries_words l) = size_waiter o x dead server serial l in
      let y : size s ≡ 4 + length (variable_words x) + length (entries_words l) = size_waiter o x true server serial l in
      let w = stands_within ws (run_words r) rest at e (omega arith) in
      let v : get_or ws (at + 1) 0 ≡ bit dead * 32768 + server * 4096 =
      word_at ws (run_words r) rest at e 1 (omega arith) ∙ ap (λ l. get_or l 1 0) (words_waiter o x dead server serial l) in
      let all : Laid out to (run_words r) (pasted ws at (at + size r) out to) = laid_copy ws (run_words r) rest at (at + size r) out to e (omega arith) refl (omega arith) in
      let new : set (run_words r) 1 (bit true * 32768 + server * 4096) ≡ run_words s =
      ap (λ l. set l 1 (bit true * 32768 + server * 4096)) (words_waiter o x dead server serial l) ∙ sym (words_waiter o x true server serial l) in
      rw (
        lt-leb (length ws) at (omega arith),
        le-ltb (length ws - at) 2 (omega arith),
        q,
        ne_eqb (at + size r) 0 (λ q. omega arith),
        onward_near to 1 (length out) near (omega arith),
        v,
        dead_word_lem dead server b,
      )
      (gives (record {
        ends = refl;
        done = longer (size s) (omega arith);
        reaches = copy_end ws (run_words r) rest at (at + size r) to (length out) e (omega arith) refl near (omega arith) ∙ ap (λ n. to + n) (z ∙ sym y);
        laid = rw new at (laid_set 1 (bit true * 32768 + server * 4096) (omega arith) (omega arith) all);
        small = omega arith;
      }))

-- ---- an executor

module _
    (ws rest : List ℕ) (o : ℕ) (y : List ℕ) (client serial f : ℕ) (a : Run) (at : ℕ) (bo : o < 64) (bv : first_of y < 32) (bf : f < 64)
    (e : drop at ws ≡ run_words (executor o y client serial a) ++ rest) (own : own_end ws at ≡ at + 3 + length (variable_words y))
  where
    -- the notice's words, one after the other
    written : List ℕ → ℕ → List ℕ
    written out to =
        set (set (set out to (head_of Kind.notice (name_fields o 0))) (to + 1) (f * 1024 + client * 128)) (to + 1 + 1) serial

    notice_head_lem : notice_head (head_of Kind.executor (name_fields o (first_of y))) ≡ head_of Kind.notice (name_fields o 0)
    notice_head_lem = omega arith

    notice_word_lem : notice_word f (client * 8192) ≡ f * 1024 + client * 128
    notice_word_lem = omega arith

    notice_at : (end : ℕ) (out : List ℕ) (to : ℕ) → to + 3 ≤ length out → Near (length out) → notice_w ws f at end out to ≡ made end (to + 3) (written out to)
    unfolding notice_w size written
    notice_at end out to room near =
        let r : Run = executor o y client serial a in
        let ww = words_executor o y client serial a in
        let z : length (run_words r) ≡ 3 + length (variable_words y) + size a = size_executor o y client serial a in
        let w = stands_within ws (run_words r) rest at e (omega arith) in
        let w0 : get_or ws at 0 ≡ head_of Kind.executor (name_fields o (first_of y)) =
        ap (λ n. get_or ws n 0) (let q : at ≡ at + 0 = omega arith in q) ∙ word_at ws (run_words r) rest at e 0 (omega arith) ∙ ap (λ l. get_or l 0 0) ww in
        let w1 : get_or ws (at + 1) 0 ≡ client * 8192 = word_at ws (run_words r) rest at e 1 (omega arith) ∙ ap (λ l. get_or l 1 0) ww in
        let w2 : get_or ws (at + 2) 0 ≡ serial = word_at ws (run_words r) rest at e 2 (omega arith) ∙ ap (λ l. get_or l 2 0) ww in
        let three : to + 1 + 1 + 1 ≡ to + 3 = omega arith in
        rw (
          lt-leb (length ws) at (omega arith),
          le-ltb (length ws - at) 3 (omega arith),
          onward_near to 1 (length out) near (omega arith),
          onward_near (to + 1) 1 (length out) near (omega arith),
          onward_near (to + 1 + 1) 1 (length out) near (omega arith),
          three,
          w0,
          w1,
          w2,
          notice_head_lem,
          notice_word_lem,
        )

    notice_laid : (out : List ℕ) (to : ℕ) → to + 3 ≤ length out → Laid out to (run_words (notice o f client serial)) (written out to)
    unfolding written
    notice_laid out to room =
        let h : ℕ = head_of Kind.notice (name_fields o 0) in
        let v : ℕ = f * 1024 + client * 128 in
        let l1 : length (set out to h) ≡ length out = length-set out to h in
        let l2 : length (set (set out to h) (to + 1) v) ≡ length out = length-set (set out to h) (to + 1) v ∙ l1 in
        rw (words_notice o f client serial)
        (laid_then {a = h ∷ []} (laid_put out to h (omega arith))
        (laid_then {a = v ∷ []} (laid_put (set out to h) (to + 1) v (omega arith)) (laid_put (set (set out to h) (to + 1) v) (to + 1 + 1) serial (omega arith))))

    module _ (sub : Walk) (out : List ℕ) (to : ℕ) (room : to + 2 * size (executor o y client serial a) ≤ length out) (near : Near (length out)) where
      body_gives :
          {oa : Option Run} {k : Killed} {start : List ℕ} →
          Laid out to (6144 ∷ []) start →
          Gives a start (to + 1) (at + 3 + length (variable_words y) + size a) k oa →
          Gives (executor o y client serial a) out to (at + size (executor o y client serial a)) (executor_on ws f at to k)
          (also oa λ a'. some (par_of a' (notice o f client serial)))
      unfolding executor_on also par_of is_done size
      body_gives {k = k} first (stops q) = stops (goes_stops k _ q)
      body_gives {k = k} first (gives {s = a'} g) =
          let z = size_executor o y client serial a in
          let u : size a' ≤ 2 * size a = g.small in
          let all : Laid out to (6144 ∷ run_words a') k.out = laid_then first g.laid in
          let l : length k.out ≡ length out = all.keeps in
          rw (
            goes_on k _ (at + 3 + length (variable_words y) + size a) g.ends (omega arith),
            onward_near to 1 (length out) near (omega arith),
            vanishes g (length out) near (omega arith),
            g.reaches,
            notice_at k.moved.end k.out to (omega arith) (rw l near),
            notice_at k.moved.end k.out (to + 1 + size a') (omega arith) (rw l near),
          )
          (by (is_done a') refl u all)
        where
          by :
              (x : Bool) → is_done a' ≡ x → size a' ≤ 2 * size a → Laid out to (6144 ∷ run_words a') k.out →
              Gives (executor o y client serial a) out to (at + size (executor o y client serial a))
              (cond x (made k.moved.end (to + 3) (written k.out to)) (made k.moved.end (to + 1 + size a' + 3) (written k.out (to + 1 + size a'))))
              (some (cond x (notice o f client serial) (par a' (notice o f client serial))))
          by true d u all =
              let z = size_executor o y client serial a in
              let v = size_notice o f client serial in
              let l : length k.out ≡ length out = all.keeps in
              gives (record {
                ends = g.ends ∙ (let q : at + 3 + length (variable_words y) + size a ≡ at + size (executor o y client serial a) = omega arith in q);
                done = longer (size (notice o f client serial)) (omega arith);
                reaches = ap (λ n. to + n) (sym v);
                laid = laid_again (omega arith) all (notice_laid k.out to (omega arith));
                small = omega arith;
              })
          by false d u all =
              let z = size_executor o y client serial a in
              let v = size_notice o f client serial in
              let x = size_par a' (notice o f client serial) in
              let l : length k.out ≡ length out = all.keeps in
              let place : to + length (6144 ∷ run_words a') ≡ to + 1 + size a' = omega arith in
              gives (record {
                ends = g.ends ∙ (let q : at + 3 + length (variable_words y) + size a ≡ at + size (executor o y client serial a) = omega arith in q);
                done = longer (size (par a' (notice o f client serial))) (omega arith);
                reaches = let q : to + 1 + size a' + 3 ≡ to + size (par a' (notice o f client serial)) = omega arith in q;
                laid = rw (words_par a' (notice o f client serial)) (laid_then all (rw place (notice_laid k.out (to + 1 + size a') (omega arith))));
                small = omega arith;
              })

      pub executor_gives :
          {oa : Option Run} →
          Does sub (at + 3 + length (variable_words y)) a oa →
          Gives (executor o y client serial a) out to (at + size (executor o y client serial a)) (executor_w sub ws f at out to)
          (also oa λ a'. some (par_of a' (notice o f client serial)))
      unfolding executor_w size
      executor_gives fa =
          let r : Run = executor o y client serial a in
          let z : size r ≡ 3 + length (variable_words y) + size a = size_executor o y client serial a in
          let w = stands_within ws (run_words r) rest at e (omega arith) in
          let first : Laid out to (6144 ∷ []) (set out to 6144) = laid_put out to 6144 (omega arith) in
          let l : length (set out to 6144) ≡ length out = first.keeps in
          rw (lt-leb (length ws) at (omega arith), own, onward_near to 1 (length out) near (omega arith))
          (body_gives first (fa (set out to 6144) (to + 1) (omega arith) (rw l near)))
