-- What killing on words gives, beside what killing on trees gives: nothing and an end of 0; or where the source ends, and the words of what
-- is killed laid over the output. Then seq and par, given this of their parts.
-- Assumes nothing.
use Prim.Native.Nat.{ℕ, ◌+◌, ◌-◌, ◌*◌, ◌≤◌, ◌<◌}
use native.Mathlib.Omega.{arith}
use mathlib.Core.Path.{◌≡◌, refl, sym, ap, ◌∙◌}
use mathlib.Core.Bool.{Bool, true, false, cond}
use mathlib.Core.Option.{Option, none, some}
use mathlib.Core.List.{List, [], ◌∷◌, ◌++◌}
use lib.Dec.{eqb}
use lib.ListN.{length, set}
use borrow.Author.Tests.{eq-eqb, ne_eqb, eqb-true, eqb-false}
use Rattle.sock.specs.Term.{Node}
use Rattle.sock.specs.Layout.{words}
use Rattle.sock.specs.Running.{Run, nil, seq, par, run_words, size}
use Rattle.sock.specs.Frames.{is_done, par_of}
use Rattle.sock.specs.Rules.{also}
use Rattle.sock.proofs.Located.{size_positive}
use Rattle.sock.proofs.Measures.{words_par, size_seq, size_par}
use Rattle.skipping.specs.Pass.{pass_end}
use Rattle.layout.specs.Positions.{onward}
use Rattle.writers.specs.Writing.{lowered}
use Rattle.killing.specs.Killing.{Killed, Walk, made, vanished, goes, seq_on, seq_w, gone_w, right_on, right_w, left_on, par_w}
use Rattle.writers.proofs.Laid.{Near, onward_near, Laid, laid_put, laid_then, laid_again, laid_less, laid_down}

-- r, which ends at e, is killed to s; twice the room of r is enough
pub record Gave (r : Run) (out : List ℕ) (to e : ℕ) (k : Killed) (s : Run) : Type 0 where
  pub ends : k.moved.end ≡ e
  pub done : eqb (size s) 1 ≡ is_done s
  pub reaches : k.moved.to ≡ to + size s
  pub laid : Laid out to (run_words s) k.out
  pub small : size s ≤ 2 * size r

pub data Gives (r : Run) (out : List ℕ) (to e : ℕ) (k : Killed) : Option Run → Type 0 where
  stops : k.moved.end ≡ 0 → Gives r out to e k none
  gives : {s : Run} → Gave r out to e k s → Gives r out to e k (some s)

-- the walk does this of r at a position, wherever there is room
abbrev pub Does : Walk → ℕ → Run → Option Run → Type 0
Does sub at r o = (out : List ℕ) (to : ℕ) → to + 2 * size r ≤ length out → Near (length out) → Gives r out to (at + size r) (sub at out to) o

-- where r is seen to become nil, it does, and notes pass over it
abbrev pub Vanishes : ℕ → List ℕ → List ℕ → ℕ → Run → Option Run → Type 0
Vanishes d ws notes at r o = gone_w ws at ≡ true → (o ≡ some nil) × (pass_end d ws notes at ≡ at + size r)

-- what is killed to one word is nil, and nothing else is

pub longer : (n : ℕ) → 1 < n → eqb n 1 ≡ false
longer n h = ne_eqb n 1 (λ z. omega arith)

one_more : (to n : ℕ) → eqb (to + n) (to + 1) ≡ eqb n 1
one_more to n = by (eqb n 1) refl
  where
    by : (b : Bool) → eqb n 1 ≡ b → eqb (to + n) (to + 1) ≡ b
    by true q = let z : n ≡ 1 = eqb-true n 1 q in eq-eqb (to + n) (to + 1) (omega arith)
    by false q = let z = eqb-false n 1 q in ne_eqb (to + n) (to + 1) (λ w. z (omega arith))

pub vanishes : {r : Run} {out : List ℕ} {to e : ℕ} {k : Killed} {s : Run} → Gave r out to e k s → (n : ℕ) → Near n → to + 1 ≤ n → vanished k.moved to ≡ is_done s
vanishes {to = to} {s = s} g n near inside = rw (onward_near to 1 n near inside, g.reaches) (one_more to (size s) ∙ g.done)

-- ---- on to what follows

pub goes_stops : (k next : Killed) → k.moved.end ≡ 0 → (goes k next).moved.end ≡ 0
unfolding goes
goes_stops k next e = rw e

pub goes_on : (k next : Killed) (e : ℕ) → k.moved.end ≡ e → 0 < e → goes k next ≡ next
unfolding goes
goes_on k next e q h = rw (q, ne_eqb e 0 (λ z. omega arith))

-- ---- seq: the first of it, up to the end of the second

pub seq_gives :
    {a : Run} {q : Node} {o : Option Run} (d : ℕ) (sub : Walk) (ws notes : List ℕ) (at : ℕ) →
    Does sub (at + 1) a o →
    pass_end d ws notes (at + 1 + size a) ≡ at + 1 + size a + length (words q) →
    (out : List ℕ) (to : ℕ) → to + 2 * size (seq a q) ≤ length out → Near (length out) →
    Gives (seq a q) out to (at + size (seq a q)) (seq_w d sub ws notes (at + 1) out to) o
unfolding seq_w seq_on
seq_gives {a} {q} d sub ws notes at f c out to room near =
    let z = size_seq a q in
    by (f out to (omega arith) near)
  where
    by : {o : Option Run} {k : Killed} → Gives a out to (at + 1 + size a) k o → Gives (seq a q) out to (at + size (seq a q)) (seq_on d ws notes k) o
    by {k = k} (stops e) = stops (goes_stops k _ e)
    by {k = k} (gives {s} g) =
        rw (goes_on k (made (pass_end d ws notes k.moved.end) k.moved.to k.out) (at + 1 + size a) g.ends (omega arith))
        (gives (record {
          ends = ap (pass_end d ws notes) g.ends ∙ c ∙ (let z = size_seq a q in let e : at + 1 + size a + length (words q) ≡ at + size (seq a q) = omega arith in e);
          done = g.done;
          reaches = g.reaches;
          laid = g.laid;
          small = let z = size_seq a q in let y = g.small in omega arith;
        }))

-- ---- par

-- the same for an output that words were laid over before, from the same place on
gives_again :
    {a r : Run} {o : Option Run} {out mid x : List ℕ} {to e : ℕ} {k : Killed} →
    to ≤ length out → Laid out to x mid → size a ≤ size r → Gives a mid to e k o → Gives r out to e k o
gives_again h l z (stops e) = stops e
gives_again h l z (gives g) =
    gives (record { ends = g.ends; done = g.done; reaches = g.reaches; laid = laid_again h l g.laid; small = let y = g.small in omega arith })

-- and of what is no smaller
gives_within :
    {a r : Run} {o : Option Run} {out : List ℕ} {to e : ℕ} {k : Killed} →
    size a ≤ size r → Gives a out to e k o → Gives r out to e k o
gives_within z (stops e) = stops e
gives_within z (gives g) =
    gives (record { ends = g.ends; done = g.done; reaches = g.reaches; laid = g.laid; small = let y = g.small in omega arith })

less_one : (to n : ℕ) → to + 1 + n - 1 ≡ to + n
less_one to n = omega arith

also_all : (o : Option Run) → also o (λ s. some s) ≡ o
unfolding also
also_all none = refl
also_all (some s) = refl

module _
    (a b : Run) (d : ℕ) (sub : Walk) (ws notes : List ℕ) (at : ℕ) (out : List ℕ) (to : ℕ)
    (room : to + 2 * size (par a b) ≤ length out) (near : Near (length out))
  where
    -- the left side stands killed, with the par's head
    module _ (a' : Run) {mid : List ℕ} (done : eqb (size a') 1 ≡ is_done a') (laid : Laid out to (6144 ∷ run_words a') mid) (small : size a' ≤ 2 * size a) where
      right_gives :
          {o : Option Run} {k : Killed} →
          Gives b mid (to + 1 + size a') (at + 1 + size a + size b) k o →
          Gives (par a b) out to (at + size (par a b)) (right_on (to + 1) (to + 1 + size a') k) (also o λ b'. some (cond (is_done b') a' (par a' b')))
      unfolding right_on also size is_done
      right_gives {k = k} (stops e) = stops (goes_stops k _ e)
      right_gives {k = k} (gives {s = b'} g) =
          let z = size_par a b in
          let y : size b' ≤ 2 * size b = g.small in
          let place : to + length (6144 ∷ run_words a') ≡ to + 1 + size a' = omega arith in
          let all : Laid out to (6144 ∷ (run_words a' ++ run_words b')) k.out = laid_then laid (rw place g.laid) in
          let e : at + 1 + size a + size b ≡ at + size (par a b) = omega arith in
          let l : length mid ≡ length out = laid.keeps in
          rw (goes_on k _ (at + 1 + size a + size b) g.ends (omega arith), vanishes g (length out) near (omega arith)) (by (is_done b') refl y all e)
        where
          by :
              (x : Bool) → is_done b' ≡ x → size b' ≤ 2 * size b →
              Laid out to (6144 ∷ (run_words a' ++ run_words b')) k.out →
              at + 1 + size a + size b ≡ at + size (par a b) →
              Gives (par a b) out to (at + size (par a b))
              (cond x (made k.moved.end (to + 1 + size a' - 1) (lowered k.out (to + 1) (to + 1 + size a'))) k)
              (some (cond x a' (par a' b')))
          by true w y all e =
              let z = size_par a b in
              gives (record {
                ends = g.ends ∙ e;
                done = done;
                reaches = less_one to (size a');
                laid = laid_down (omega arith) (laid_less (6144 ∷ run_words a') (run_words b') (omega arith) all);
                small = omega arith;
              })
          by false w y all e =
              let z = size_par a b in
              let s = size_par a' b' in
              gives (record {
                ends = g.ends ∙ e;
                done = let p = size_positive a' in let q = size_positive b' in longer (size (par a' b')) (omega arith);
                reaches = g.reaches ∙ (let q : to + 1 + size a' + size b' ≡ to + size (par a' b') = omega arith in q);
                laid = rw (words_par a' b') all;
                small = omega arith;
              })

      -- and the right side is seen to become nil, or not
      beside_gives :
          {o : Option Run} →
          Does sub (at + 1 + size a) b o →
          Vanishes d ws notes (at + 1 + size a) b o →
          Gives (par a b) out to (at + size (par a b)) (right_w d sub ws notes (at + 1 + size a) mid (to + 1) (to + 1 + size a')) (also o λ b'. some (cond (is_done b') a' (par a' b')))
      unfolding right_w also size is_done
      beside_gives {o} fb v = by (gone_w ws (at + 1 + size a)) refl
        where
          by :
              (x : Bool) → gone_w ws (at + 1 + size a) ≡ x →
              Gives (par a b) out to (at + size (par a b))
              (cond x
              (made (pass_end d ws notes (at + 1 + size a)) (to + 1 + size a' - 1) (lowered mid (to + 1) (to + 1 + size a')))
              (right_on (to + 1) (to + 1 + size a') (sub (at + 1 + size a) mid (to + 1 + size a'))))
              (also o λ b'. some (cond (is_done b') a' (par a' b')))
          by true g =
              let z = size_par a b in
              rw (v g).0
              (gives (record {
                ends = (v g).1 ∙ (let e : at + 1 + size a + size b ≡ at + size (par a b) = omega arith in e);
                done = done;
                reaches = less_one to (size a');
                laid = laid_down (omega arith) laid;
                small = omega arith;
              }))
          by false g =
              let z = size_par a b in
              let l : length mid ≡ length out = laid.keeps in
              right_gives (fb mid (to + 1 + size a') (omega arith) (rw l near))

    left_gives :
        {oa ob : Option Run} {k : Killed} {start : List ℕ} →
        Does sub (at + 1 + size a) b ob →
        Vanishes d ws notes (at + 1 + size a) b ob →
        Laid out to (6144 ∷ []) start →
        Gives a start (to + 1) (at + 1 + size a) k oa →
        Gives (par a b) out to (at + size (par a b)) (left_on d sub ws notes (to + 1) to k) (also oa λ a'. also ob λ b'. some (par_of a' b'))
    unfolding left_on also par_of
    left_gives {k = k} fb vb first (stops e) = stops (goes_stops k _ e)
    left_gives {ob = ob} {k} fb vb first (gives {s = a'} g) =
        let z = size_par a b in
        let y : size a' ≤ 2 * size a = g.small in
        let all : Laid out to (6144 ∷ run_words a') k.out = laid_then first g.laid in
        let e : at + 1 + size a + size b ≡ at + size (par a b) = omega arith in
        rw (goes_on k _ (at + 1 + size a) g.ends (omega arith), vanishes g (length out) near (omega arith), g.ends, g.reaches) (by (is_done a') refl y all e)
      where
        by :
            (x : Bool) → is_done a' ≡ x → size a' ≤ 2 * size a →
            Laid out to (6144 ∷ run_words a') k.out →
            at + 1 + size a + size b ≡ at + size (par a b) →
            Gives (par a b) out to (at + size (par a b))
            (cond x (sub (at + 1 + size a) k.out to) (right_w d sub ws notes (at + 1 + size a) k.out (to + 1) (to + 1 + size a')))
            (also ob λ b'. some (cond x b' (cond (is_done b') a' (par a' b'))))
        by true w y all e =
            let z = size_par a b in
            let l : length k.out ≡ length out = all.keeps in
            rw (also_all ob, ← e) (gives_again (omega arith) all (omega arith) (fb k.out to (omega arith) (rw l near)))
        by false w y all e = beside_gives a' g.done all y fb vb

    pub par_gives :
        {oa ob : Option Run} →
        Does sub (at + 1) a oa →
        Vanishes d ws notes (at + 1) a oa →
        Does sub (at + 1 + size a) b ob →
        Vanishes d ws notes (at + 1 + size a) b ob →
        Gives (par a b) out to (at + size (par a b)) (par_w d sub ws notes (at + 1) out to) (also oa λ a'. also ob λ b'. some (par_of a' b'))
    unfolding par_w also par_of is_done
    par_gives {oa} {ob} fa va fb vb = by (gone_w ws (at + 1)) refl
      where
        by :
            (x : Bool) → gone_w ws (at + 1) ≡ x →
            Gives (par a b) out to (at + size (par a b))
            (cond x (sub (pass_end d ws notes (at + 1)) out to) (left_on d sub ws notes (onward to 1) to (sub (at + 1) (set out to 6144) (onward to 1))))
            (also oa λ a'. also ob λ b'. some (par_of a' b'))
        by true g =
            let z = size_par a b in
            let e : at + 1 + size a + size b ≡ at + size (par a b) = omega arith in
            rw ((va g).0, (va g).1, also_all ob, ← e) (gives_within (omega arith) (fb out to (omega arith) near))
        by false g =
            let z = size_par a b in
            let first : Laid out to (6144 ∷ []) (set out to 6144) = laid_put out to 6144 (omega arith) in
            let l : length (set out to 6144) ≡ length out = first.keeps in
            rw (onward_near to 1 (length out) near (omega arith)) (left_gives fb vb first (fa (set out to 6144) (to + 1) (omega arith) (rw l near)))
