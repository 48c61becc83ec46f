-- Document 01's edges, by computation: depth 64 is readable and 65 is not, counted along processes, expressions and list entries; 8,192 words
-- are readable and 8,193 are not; a solicit at issued 65,534 is accepted, and at 65,535 refused.
-- Assumes nothing.
use Prim.Native.Nat.{ℕ, zero, suc}
use mathlib.Core.Path.{◌≡◌, refl}
use mathlib.Core.List.{List, [], ◌∷◌, ◌++◌}
use lib.ListN.{length, replicate}
use Rattle.sock.specs.Configuration.{standard}
use Rattle.sock.specs.Calls.{Answer, answer_of, step, check_readable}
use Rattle.sock.proofs.Computed.{computed}
use Rattle.sock.proofs.Examples.{Every, to}

-- one engine with all values 0
one : List ℕ → List ℕ
one p = 1 ∷ 0 ∷ replicate 64 0 ++ p

-- words, and what the readable check says of them
record Checked : Type 0 where
  words : List ℕ
  number : ℕ

abbrev Said : Checked → Type 0
Said c = check_readable standard c.words ≡ c.number

-- ---- depth

-- n scopes, one in another, around a process
within : ℕ → List ℕ → List ℕ
within zero p = p
within (suc n) p = 0x5800 ∷ 0 ∷ 0 ∷ within n p

abbrev nil : List ℕ
nil = 0 ∷ []

-- an assign of a variable: its expression is one deeper
assign : List ℕ
assign = 0x0800 ∷ 0x2000 ∷ []

-- an inst with one entry, nil, which is one deeper
inst : List ℕ
inst = 0x6000 ∷ 1 ∷ 0 ∷ 0 ∷ []

depths : List Checked
depths =
    record { words = one (within 63 nil); number = 0 }
    ∷ record { words = one (within 64 nil); number = 1 }
    ∷ record { words = one (within 62 assign); number = 0 }
    ∷ record { words = one (within 63 assign); number = 1 }
    ∷ record { words = one (within 62 inst); number = 0 }
    ∷ record { words = one (within 63 inst); number = 1 }
    ∷ []

deepest : Every Said depths
unfolding computed one within assign inst depths
deepest = (refl, (refl, (refl, (refl, (refl, (refl, tt))))))

-- ---- length

-- pars in pars around throws: 2 to the n plus 1, less 1, words
tree : ℕ → List ℕ
tree zero = 0x6800 ∷ []
tree (suc n) = 0x1800 ∷ tree n ++ tree n

beside : ℕ → List ℕ → List ℕ
beside n p = 0x1800 ∷ tree n ++ p

-- 8,189 words and a process's
full : List ℕ → List ℕ
full p = one (0x5800 ∷ 0 ∷ 0 ∷ beside 11 (beside 10 (beside 9 (beside 8 (beside 7 (beside 6 (beside 4 (beside 3 (beside 2 p)))))))))

-- a par of two throws; a par of a throw and an assign of two words
short : List ℕ
short = 0x1800 ∷ 0x6800 ∷ 0x6800 ∷ []

long : List ℕ
long = 0x1800 ∷ 0x6800 ∷ 0x0800 ∷ 0x2000 ∷ []

lengths : (length (full short) ≡ 8192) × (length (full long) ≡ 8193)
unfolding computed one tree beside full short long
lengths = (refl, refl)

longest : (check_readable standard (full short) ≡ 0) × (check_readable standard (full long) ≡ 1)
unfolding computed one tree beside full short long
longest = (refl, refl)

-- ---- serials

-- document 01's worked start, with i serials issued
asking : ℕ → List ℕ
asking i =
    2 ∷ i ∷ 0 ∷ 0 ∷ 0 ∷ 1 ∷ replicate 60 0
    ++ (0x5800 ∷ 0 ∷ 0 ∷ 0x5020 ∷ 0x0880 ∷ 1 ∷ 1 ∷ 0 ∷ [])
    ++ replicate 64 0
    ++ (0x5800 ∷ 0 ∷ 0 ∷ 0x4020 ∷ 0 ∷ 1 ∷ 1 ∷ 0 ∷ [])

answer : ℕ → Answer
answer i = answer_of (step standard (asking i) (to 0 3 1 3) 8192)

last_serial : answer 65534 ≡ record { number = 0; kind = 10; serial = 65535; fault = 0; length = 146 }
unfolding computed asking to answer
last_serial = refl

serials_spent : answer 65535 ≡ record { number = 7; kind = 0; serial = 0; fault = 0; length = 0 }
unfolding computed asking to answer
serials_spent = refl
