-- The words of bytes: how many there are, that an odd number of bytes has none, and that too many are not readable.
-- Assumes nothing.
use Prim.Native.Nat.{ℕ, zero, suc, ◌+◌, ◌*◌, ◌≤◌, ◌<◌}
use native.Mathlib.Omega.{arith}
use mathlib.Core.Path.{◌≡◌, refl, ap, ◌∙◌}
use mathlib.Core.Option.{Option, none, some}
use mathlib.Core.List.{List, [], ◌∷◌}
use lib.ListN.{length}
use Rattle.sock.specs.Rules.{also}
use Rattle.sock.specs.Bytes.{words_of, words_or_none}
use Rattle.sock.specs.Configuration.{Limits, Config, read_config}
use Rattle.sock.proofs.Configuration.{config_found}

-- of an even number of bytes there are words
some_words : (n : ℕ) (bytes : List ℕ) → length bytes ≡ n * 2 → words_of bytes ≡ some (words_or_none (words_of bytes))
unfolding words_of words_or_none also
some_words n [] e = refl
some_words n (h ∷ []) e = absurd (omega arith)
some_words zero (h ∷ l ∷ bytes) e = absurd (omega arith)
some_words (suc n) (h ∷ l ∷ bytes) e = rw (some_words n bytes (omega arith)) refl

pub words_next :
    (n h l : ℕ) (bytes : List ℕ) → length bytes ≡ n * 2 →
    words_or_none (words_of (h ∷ l ∷ bytes)) ≡ (h * 256 + l) ∷ words_or_none (words_of bytes)
unfolding words_of words_or_none also
words_next n h l bytes e = rw (some_words n bytes e) refl

none_of_none : length (words_or_none (words_of [])) ≡ 0
unfolding words_of words_or_none
none_of_none = refl

pub words_length : (n : ℕ) (bytes : List ℕ) → length bytes ≡ n * 2 → length (words_or_none (words_of bytes)) ≡ n
words_length zero [] e = none_of_none
words_length zero (h ∷ bytes) e = absurd (omega arith)
words_length (suc n) [] e = absurd (omega arith)
words_length (suc n) (h ∷ []) e = absurd (omega arith)
words_length (suc n) (h ∷ l ∷ bytes) e =
    let rest : length bytes ≡ n * 2 = omega arith in
    ap length (words_next n h l bytes rest) ∙ ap suc (words_length n bytes rest)

pub words_of_odd : (n : ℕ) (bytes : List ℕ) → length bytes ≡ n * 2 + 1 → words_of bytes ≡ none
unfolding words_of also
words_of_odd n [] e = absurd (omega arith)
words_of_odd n (h ∷ []) e = refl
words_of_odd zero (h ∷ l ∷ bytes) e = absurd (omega arith)
words_of_odd (suc n) (h ∷ l ∷ bytes) e = rw (words_of_odd n bytes (omega arith)) refl

-- ---- too many bytes

-- twice as many bytes as words, where there are words
pub length_or : Option (List ℕ) → ℕ → ℕ
length_or none d = d
length_or (some ws) d = length ws * 2

pub length_words : (bytes : List ℕ) → length_or (words_of bytes) (length bytes) ≡ length bytes
unfolding words_of also length_or
length_words [] = refl
length_words (h ∷ []) = refl
length_words (h ∷ l ∷ bytes) = by (words_of bytes) (length_words bytes)
  where
    by : (o : Option (List ℕ)) → length_or o (length bytes) ≡ length bytes →
        length_or (also o λ ws. some ((h * 256 + l) ∷ ws)) (suc (suc (length bytes))) ≡ suc (suc (length bytes))
    by none i = refl
    by (some us) i = omega (arith, i)

pub no_config : (limits : Limits) (ws : List ℕ) → limits.longest < length ws → read_config limits ws ≡ none
no_config limits ws b = by (read_config limits ws) refl
  where
    by : (o : Option Config) → read_config limits ws ≡ o → o ≡ none
    by none e = refl
    by (some c) e = let k = config_found limits ws c e in absurd (let s : length ws ≤ limits.longest = rw k.0 at k.1.short in omega arith)

pub no_words : (limits : Limits) → read_config limits [] ≡ none
unfolding read_config
no_words limits = refl

pub long_unread :
    (limits : Limits) (bytes : List ℕ) (o : Option (List ℕ)) → length_or o (length bytes) ≡ length bytes → limits.longest * 2 < length bytes →
    read_config limits (words_or_none o) ≡ none
unfolding words_or_none length_or
long_unread limits bytes none e b = no_words limits
long_unread limits bytes (some ws) e b = no_config limits ws (omega (arith, e))
