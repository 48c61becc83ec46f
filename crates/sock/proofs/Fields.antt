-- The fields of heads and fixed words, packed and unpacked, and tests taken apart: what the laws of opening and encoding ask of numbers.
-- Assumes nothing.
use Prim.Native.Nat.{ℕ, zero, suc, ◌+◌, ◌*◌, ◌/◌, ◌%◌, ◌≤◌, ◌<◌}
use native.Mathlib.Omega.{arith}
use native.Mathlib.Decide.{ℕ_discrete}
use mathlib.Core.Path.{◌≡◌, refl, sym, subst}
use mathlib.Core.Bool.{Bool, true, false, not, ◌&&◌, ◌||◌}
use borrow.Author.Tests.{eq-eqb, ne_eqb, eqb-true, eqb-false}
use lib.Dec.{T, eqb, eqb→eq, leb, ltb, leb→le, ltb→lt, le→leb, lt→ltb}
use lib.Ieee.Fits.{and_i, and_l, and_r}
use Rattle.sock.specs.Words.{kind_of, name_of, second_of, mark_of, zombie_of, first_name, executors_client, dead_of, waiters_server, notices_client, bit, is_one, head_of, name_fields, is_word, clear}
use Rattle.sock.specs.Term.{Operator, sum, difference, less, equal, decimal_sum, decimal_difference, Entries}
use Rattle.sock.specs.Layout.{operator_tag}
use Rattle.sock.specs.Reading.{scope_fits, resting_fits, is_empty, end_fits}
use Rattle.sock.specs.Running.{Mark, unmarked, faulted, own_name, mark_number, marked_fault, mark_by, scope_head}
use Rattle.sock.proofs.Fits.{MarkFits, is_plain}

-- ---- by number

infixr 40 ◌then◌
-- one fact for each number from k up to a bound
pub data From (P : ℕ → Type 0) (bound : ℕ) : ℕ → Type 0 where
  end : From P bound bound
  ◌then◌ : {k : ℕ} → P k → From P bound (suc k) → From P bound k

pub fact_at : {P : ℕ → Type 0} {bound k : ℕ} → From P bound k → (j : ℕ) → k ≤ j → j < bound → P j
fact_at end j a b = absurd (omega arith)
fact_at {P} {k = k} (p then r) j a b = elim (ℕ_discrete k j) [ yes e ↦ subst P e p | no n ↦ fact_at r j (omega arith) b ]

-- ---- tests

pub three : (a b c : Bool) → T (a && b && c) → T a × T b × T c
three true true c t = (tt, tt, t)
three true false c t = absurd t
three false b c t = absurd t

pub four : (a b c d : Bool) → T (a && b && c && d) → T a × T b × T c × T d
four true true true true t = (tt, tt, tt, tt)
four true true true false t = absurd t
four true true false d t = absurd t
four true false c d t = absurd t
four false b c d t = absurd t

pub four_pass : (a b c d : Bool) → T a × T b × T c × T d → T (a && b && c && d)
four_pass a b c d t = and_i (a && b && c) d (and_i (a && b) c (and_i a b t.0 t.1) t.2) t.3

pub turned_round : (a b : ℕ) → eqb a b ≡ eqb b a
turned_round a b = by (eqb b a) refl
  where
    by : (t : Bool) → eqb b a ≡ t → eqb a b ≡ t
    by true e = eq-eqb a b (sym (eqb-true b a e))
    by false e = ne_eqb a b λ z. eqb-false b a e (sym z)

-- a plain kind is not nil, seq, par or scope
pub plain_kind : (k : ℕ) → T (is_plain k) → (eqb k 0 ≡ false) × (eqb k 2 ≡ false) × (eqb k 3 ≡ false) × (eqb k 11 ≡ false)
plain_kind k t = go (eqb k 0) (eqb k 2) (eqb k 3) (eqb k 11) t
  where
    go : (a b c d : Bool) → T (not (a || b || c || d)) → (a ≡ false) × (b ≡ false) × (c ≡ false) × (d ≡ false)
    go false false false false t = (refl, refl, refl, refl)
    go false false false true t = absurd t
    go false false true d t = absurd t
    go false true c d t = absurd t
    go true b c d t = absurd t

-- ---- marks and bits

-- a number and a fault that pass the test are those of a mark that fits
pub mark_of_lem :
    (m z f : ℕ) (l : Entries) → f < 64 → T (scope_fits m z f l) → (mark_number (mark_by m f) ≡ m) × (marked_fault (mark_by m f) ≡ f) × MarkFits (mark_by m f) (is_one z) l
unfolding scope_fits
mark_of_lem zero z f l b t = (refl, sym (eqb→eq f 0 t), tt)
mark_of_lem (suc zero) z f l b t = (refl, refl, (b, t))
mark_of_lem (suc (suc zero)) z f l b t = (refl, sym (eqb→eq f 0 (and_l (eqb f 0) _ t)), and_r (eqb f 0) _ t)
mark_of_lem (suc (suc (suc m))) z f l b t = absurd t

-- and a mark that fits passes it
pub mark_passes : (mark : Mark) (zombie : Bool) (l : Entries) → MarkFits mark zombie l → T (scope_fits (mark_number mark) (bit zombie) (marked_fault mark) l)
unfolding scope_fits
mark_passes unmarked zombie l t = tt
mark_passes (faulted f) zombie l t = t.1
mark_passes own_name true l t = tt
mark_passes own_name false l t = t

pub fault_below : (mark : Mark) (zombie : Bool) (l : Entries) → MarkFits mark zombie l → marked_fault mark < 64
fault_below unmarked zombie l t = omega arith
fault_below (faulted f) zombie l t = t.0
fault_below own_name zombie l t = omega arith

pub mark_below : (mark : Mark) → mark_number mark < 4
mark_below unmarked = omega arith
mark_below (faulted f) = omega arith
mark_below own_name = omega arith

pub mark_by_mark : (mark : Mark) → mark_by (mark_number mark) (marked_fault mark) ≡ mark
mark_by_mark unmarked = refl
mark_by_mark (faulted f) = refl
mark_by_mark own_name = refl

-- a resting scope is unmarked
pub resting_fits_lem : (m z f : ℕ) (l : Entries) → T (resting_fits m z f l) → T (scope_fits m z f l)
unfolding resting_fits scope_fits
resting_fits_lem m z f l t = let all = four (eqb m 0) (eqb z 0) (eqb f 0) (is_empty l) t in go m (eqb→eq m 0 all.0) all.2
  where
    go : (m : ℕ) → m ≡ 0 → T (eqb f 0) → T (scope_fits m z f l)
    go zero e t = t
    go (suc m) e t = absurd (omega arith)

pub bit_is_one : (b : ℕ) → b < 2 → bit (is_one b) ≡ b
bit_is_one zero h = refl
bit_is_one (suc zero) h = refl
bit_is_one (suc (suc b)) h = absurd (omega arith)

pub is_one_bit : (b : Bool) → is_one (bit b) ≡ b
is_one_bit true = refl
is_one_bit false = refl

pub bit_below : (b : Bool) → bit b < 2
bit_below true = omega arith
bit_below false = omega arith

-- ---- heads

pub head_kind : (k f : ℕ) → f < 2048 → kind_of (head_of k f) ≡ k
head_kind k f b = omega arith

pub name_below : (h : ℕ) → name_of h < 64
name_below h = omega arith

pub second_below : (h : ℕ) → second_of h < 32
second_below h = omega arith

-- a head from its fields
pub scope_head_lem : (h : ℕ) → kind_of h ≡ 11 → h % 4 ≡ 0 → head_of 11 (name_of h * 32 + mark_of h * 8 + zombie_of h * 4) ≡ h
scope_head_lem h e c = sum (h / 4) (h / 8) (h / 32) (name_of h) (mark_of h) (zombie_of h) (omega arith) (omega arith) (omega arith) (omega arith)
  where
    sum : (u v w x y z : ℕ) → h ≡ u * 4 → u ≡ v * 2 + z → v ≡ w * 4 + y → w ≡ 704 + x → head_of 11 (x * 32 + y * 8 + z * 4) ≡ h
    sum u v w x y z p q r s = omega arith

-- the fields of a head
pub fields_below : (name second : ℕ) → name < 64 → second < 32 → name_fields name second < 2048
fields_below name second a b = omega arith

pub name_of_lem : (k name second : ℕ) → name < 64 → second < 32 → name_of (head_of k (name_fields name second)) ≡ name
name_of_lem k name second a b = omega arith

pub second_of_lem : (k name second : ℕ) → second < 32 → second_of (head_of k (name_fields name second)) ≡ second
second_of_lem k name second b = omega arith

module _ (name : ℕ) (mark : Mark) (zombie : Bool) (b : name < 64) where
  pub scope_kind : kind_of (scope_head name mark zombie) ≡ 11
  scope_kind = omega (arith, mark_below mark, bit_below zombie)

  pub scope_clear : scope_head name mark zombie % 4 ≡ 0
  scope_clear = omega arith

  pub scope_name : name_of (scope_head name mark zombie) ≡ name
  scope_name = omega (arith, mark_below mark, bit_below zombie)

  pub scope_mark : mark_of (scope_head name mark zombie) ≡ mark_number mark
  scope_mark = omega (arith, mark_below mark, bit_below zombie)

  pub scope_zombie : zombie_of (scope_head name mark zombie) ≡ bit zombie
  scope_zombie = omega (arith, bit_below zombie)

-- ---- fixed words

pub fault_of : (f : ℕ) → first_name (f * 1024) ≡ f
fault_of f = omega arith

pub client_of : (c : ℕ) → executors_client (c * 8192) ≡ c
client_of c = omega arith

pub dead_of_lem : (d s : ℕ) → s < 8 → dead_of (d * 32768 + s * 4096) ≡ d
dead_of_lem d s b = omega arith

pub server_of : (d s : ℕ) → s < 8 → waiters_server (d * 32768 + s * 4096) ≡ s
server_of d s b = omega arith

pub noticed_fault : (f c : ℕ) → c < 8 → first_name (f * 1024 + c * 128) ≡ f
noticed_fault f c b = omega arith

pub noticed_client : (f c : ℕ) → c < 8 → notices_client (f * 1024 + c * 128) ≡ c
noticed_client f c b = omega arith

pub fixed_fits : (m w : ℕ) → w < 65536 → w % m ≡ 0 → T (is_word w && clear m w)
fixed_fits m w b e = and_i (is_word w) (clear m w) (le→leb (suc w) 65536 b) (rw e tt)

pub clear_one : (w : ℕ) → w % 1 ≡ 0
clear_one w = omega arith

-- ---- ends

pub record EndFits (n issued engine serial : ℕ) : Type 0 where
  pub below : engine < n
  pub positive : zero < serial
  pub given : serial ≤ issued

pub end_tests : (n issued engine serial : ℕ) → T (end_fits n issued engine serial) → EndFits n issued engine serial
unfolding end_fits
end_tests n issued engine serial t =
    let both = and_l (ltb engine n && ltb 0 serial) (leb serial issued) t in
    record {
      below = ltb→lt engine n (and_l (ltb engine n) (ltb 0 serial) both);
      positive = ltb→lt 0 serial (and_r (ltb engine n) (ltb 0 serial) both);
      given = leb→le serial issued (and_r (ltb engine n && ltb 0 serial) (leb serial issued) t);
    }

pub end_fits_lem : {n issued engine serial : ℕ} → EndFits n issued engine serial → T (end_fits n issued engine serial)
unfolding end_fits
end_fits_lem {n} {issued} {engine} {serial} e =
    and_i (ltb engine n && ltb 0 serial) (leb serial issued)
    (and_i (ltb engine n) (ltb 0 serial) (lt→ltb engine n e.below) (lt→ltb 0 serial e.positive))
    (le→leb serial issued e.given)

-- ---- expressions

pub operator_tag_lem : (o : Operator) → (2 ≤ operator_tag o) × (operator_tag o ≤ 7)
operator_tag_lem sum = (omega arith, omega arith)
operator_tag_lem difference = (omega arith, omega arith)
operator_tag_lem less = (omega arith, omega arith)
operator_tag_lem equal = (omega arith, omega arith)
operator_tag_lem decimal_sum = (omega arith, omega arith)
operator_tag_lem decimal_difference = (omega arith, omega arith)
