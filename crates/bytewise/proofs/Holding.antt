-- The words held are the definitions' words of the bytes, laid over what was there, and what is not held is read by no call.
-- Assumes nothing.
use Prim.Native.Nat.{ℕ, zero, suc, ◌+◌, ◌*◌, ◌/◌, ◌%◌, ◌≤◌, ◌<◌}
use native.Mathlib.Omega.{arith}
use mathlib.Core.Path.{◌≡◌, refl, sym, ap, ◌∙◌}
use mathlib.Core.Bool.{Bool, true, false, cond, ◌&&◌}
use mathlib.Core.Option.{Option}
use mathlib.Core.List.{List, [], ◌∷◌, map}
use lib.Dec.{ltb, leb}
use lib.ListN.{length, get_or, set, take, length-map}
use lib.Seq.{take_all}
use borrow.Author.Tests.{lt-ltb, le-ltb, ltb-true, eqb-true, eqb-false}
use Rattle.std.specs.Bool.{◌==◌}
use Rattle.std.specs.Int.{w16, from_be_bytes}
use Rattle.std.specs.Simd.{first_chunks}
use Rattle.std.proofs.lemmas.List.{nil_from_length, get_or-map}
use Rattle.sock.specs.Bytes.{words_of, words_or_none, words_in, byte_check_readable, byte_check_start, byte_ends, packed_ends, packed_part, byte_process}
use Rattle.sock.specs.Pending.{side_at, searched, pending_at, packed_pending, byte_pending}
use Rattle.sock.specs.Calls.{unreadable, nobody_there, enabled_at, not_fresh, unknown_serial, done, ◌!◌, ◌>>=◌, ◌>>◌, ◌unless◌, passed, check_readable, start, check_start, counted, known, ends, part_in, process_part, over}
use Rattle.sock.specs.Configuration.{Config, Limits, standard, read_config, fresh}
use Rattle.sock.proofs.ByteWords.{words_next, words_length, words_of_odd, length_words, no_words, long_unread}
use Rattle.bytewise.specs.Held.{held}

-- ---- pairs of bytes as words

pub words_count : (bytes : List ℕ) → length (words_in bytes) ≡ length bytes / 2
unfolding words_in
words_count [] = refl
words_count (h ∷ []) = refl
words_count (h ∷ l ∷ bytes) = omega (arith, words_count bytes)

pub paired : (bytes : List ℕ) (n : ℕ) → n ≡ length bytes / 2 → map (from_be_bytes w16) (first_chunks 2 n bytes) ≡ words_in bytes
unfolding words_in
paired bytes zero q = sym (nil_from_length (words_in bytes) (words_count bytes ∙ sym q))
paired [] (suc n) q = absurd (omega arith)
paired (h ∷ []) (suc n) q = absurd (omega arith)
paired (h ∷ l ∷ bytes) (suc n) q = ap (λ (us : List ℕ). (h * 256 + l) ∷ us) (paired bytes n (omega arith))

even_words : (n : ℕ) (bytes : List ℕ) → length bytes ≡ n * 2 → words_in bytes ≡ words_or_none (words_of bytes)
unfolding words_in words_of words_or_none
even_words n [] e = refl
even_words n (h ∷ []) e = absurd (omega arith)
even_words zero (h ∷ l ∷ bytes) e = absurd (omega arith)
even_words (suc n) (h ∷ l ∷ bytes) e =
    let rest : length bytes ≡ n * 2 = omega arith in
    ap (λ (us : List ℕ). (h * 256 + l) ∷ us) (even_words n bytes rest) ∙ sym (words_next n h l bytes rest)

-- one more word is over the others
laid_next : (i : ℕ) (us ws : List ℕ) → i < length us → i < length ws → set (over (take i us) ws) i (get_or us i 0) ≡ over (take (suc i) us) ws
laid_next i [] ws a b = absurd (omega arith)
laid_next i (u ∷ us) [] a b = absurd (omega arith)
laid_next zero (u ∷ us) (w ∷ ws) a b = refl
laid_next (suc i) (u ∷ us) (w ∷ ws) a b = ap (λ (l : List ℕ). u ∷ l) (laid_next i us ws (omega arith) (omega arith))

pub laid_turn :
    (us ws ws₀ : List ℕ) (i w : ℕ) → i < length us → i < length ws₀ → w ≡ get_or us i 0 → ws ≡ over (take i us) ws₀ →
    set ws i w ≡ over (take (i + 1) us) ws₀
laid_turn us ws ws₀ i w a b q f =
    let one_more_lem : suc i ≡ i + 1 = omega arith in
    ap (λ (l : List ℕ). set l i w) f
    ∙ ap (λ (v : ℕ). set (over (take i us) ws₀) i v) q
    ∙ laid_next i us ws₀ a b
    ∙ ap (λ (m : ℕ). over (take m us) ws₀) one_more_lem

-- a pair more
pub fill_turn :
    (pairs : List (List ℕ)) (ws ws₀ : List ℕ) (i w : ℕ) → i < length pairs → i < length ws₀ → w ≡ from_be_bytes w16 (get_or pairs i []) →
    ws ≡ over (take i (map (from_be_bytes w16) pairs)) ws₀ → set ws i w ≡ over (take (i + 1) (map (from_be_bytes w16) pairs)) ws₀
fill_turn pairs ws ws₀ i w a b q f =
    laid_turn (map (from_be_bytes w16) pairs) ws ws₀ i w (omega (arith, length-map pairs (from_be_bytes w16))) b
    (q ∙ sym (get_or-map (from_be_bytes w16) pairs i [] 0 a)) f

pub laid_end : (us ws ws₀ : List ℕ) (i : ℕ) → i ≡ length us → ws ≡ over (take i us) ws₀ → ws ≡ over us ws₀
laid_end us ws ws₀ i p f =
    let all : take i us ≡ us = take_all i us (omega arith) in
    f ∙ ap (λ (l : List ℕ). over l ws₀) all

held_as : (room : ℕ) (bytes : List ℕ) (b : Bool) → ltb (room * 2) (length bytes) ≡ b → held room bytes ≡ cond b [] (words_or_none (words_of bytes))
unfolding held
held_as room bytes b e = ap (λ (t : Bool). cond t [] (words_or_none (words_of bytes))) e

-- ---- what the code knows at each return

pub held_odd : (room n : ℕ) (bytes : List ℕ) → length bytes ≡ n * 2 + 1 → [] ≡ held room bytes
unfolding words_or_none
held_odd room n bytes e = by (ltb (room * 2) (length bytes)) refl
  where
    by : (b : Bool) → ltb (room * 2) (length bytes) ≡ b → [] ≡ held room bytes
    by true t = sym (held_as room bytes true t)
    by false t = sym (held_as room bytes false t ∙ ap words_or_none (words_of_odd n bytes e))

pub held_long : (room n : ℕ) (bytes : List ℕ) → length bytes ≡ n * 2 → room < n → [] ≡ held room bytes
held_long room n bytes e h = sym (held_as room bytes true (lt-ltb (room * 2) (length bytes) (omega arith)))

pub held_short : (room : ℕ) (bytes : List ℕ) → length bytes ≤ room * 2 → held room bytes ≡ words_or_none (words_of bytes)
held_short room bytes h = held_as room bytes false (le-ltb _ _ h)

pub held_all : (room n : ℕ) (bytes : List ℕ) → length bytes ≡ n * 2 → n ≤ room → words_or_none (words_of bytes) ≡ held room bytes
held_all room n bytes e h = sym (held_short room bytes (omega arith))

pub none_laid : (us ws : List ℕ) → [] ≡ us → (0 ≡ length us) × (ws ≡ over us ws) × (0 ≤ length ws)
none_laid us ws e = (ap length e, ap (λ (l : List ℕ). over l ws) e, omega arith)

pub odd_laid :
    (bytes ws rest : List ℕ) → length rest ≡ length bytes % 2 → length rest == 0 ≡ false →
    (0 ≡ length (held (length ws) bytes)) × (ws ≡ over (held (length ws) bytes) ws) × (0 ≤ length ws)
odd_laid bytes ws rest e h = none_laid _ ws (held_odd (length ws) (length bytes / 2) bytes (let n = eqb-false (length rest) 0 h in omega arith))

pub long_laid :
    (bytes ws rest : List ℕ) → length rest ≡ length bytes % 2 → length rest == 0 ≡ true → length ws < length bytes / 2 →
    (0 ≡ length (held (length ws) bytes)) × (ws ≡ over (held (length ws) bytes) ws) × (0 ≤ length ws)
long_laid bytes ws rest e z h = none_laid _ ws (held_long (length ws) (length bytes / 2) bytes (let n = eqb-true (length rest) 0 z in omega arith) h)

pub all_laid :
    (bytes ws out rest : List ℕ) (pairs : List (List ℕ)) → length rest ≡ length bytes % 2 → length rest == 0 ≡ true → length pairs ≡ length bytes / 2 → length pairs ≤ length ws →
    pairs ≡ first_chunks 2 (length bytes / 2) bytes → out ≡ over (map (from_be_bytes w16) pairs) ws →
    (length pairs ≡ length (held (length ws) bytes)) × (out ≡ over (held (length ws) bytes) ws) × (length pairs ≤ length ws)
all_laid bytes ws out rest pairs d z n h p q =
    let r = eqb-true (length rest) 0 z in
    let e : length bytes ≡ length bytes / 2 * 2 = omega arith in
    let same = held_all (length ws) (length bytes / 2) bytes e (omega arith) in
    let words = ap (map (from_be_bytes w16)) p ∙ paired bytes (length bytes / 2) refl ∙ even_words (length bytes / 2) bytes e ∙ same in
    (n ∙ sym (words_length (length bytes / 2) bytes e) ∙ ap length same, q ∙ ap (λ (l : List ℕ). over l ws) words, h)

-- ---- what is not held is not readable

-- the words held are read as the definitions' are
module _ (limits : Limits) (most : ℕ) (all : limits.longest ≤ most) where
  pub read_held : (bytes : List ℕ) → read_config limits (held most bytes) ≡ read_config limits (words_or_none (words_of bytes))
  read_held bytes = by (ltb (most * 2) (length bytes)) refl
    where
      by : (b : Bool) → ltb (most * 2) (length bytes) ≡ b → read_config limits (held most bytes) ≡ read_config limits (words_or_none (words_of bytes))
      by true e =
          ap (read_config limits) (held_as most bytes true e)
          ∙ no_words limits
          ∙ sym (long_unread limits bytes (words_of bytes) (length_words bytes) (omega (arith, all, ltb-true (most * 2) (length bytes) e)))
      by false e = ap (read_config limits) (held_as most bytes false e)

  module _ (bytes ws : List ℕ) (e : ws ≡ held most bytes) where
    pub read_as : read_config limits ws ≡ read_config limits (words_or_none (words_of bytes))
    read_as = ap (read_config limits) e ∙ read_held bytes

    pub readable_as : check_readable limits ws ≡ byte_check_readable limits bytes
    unfolding check_readable byte_check_readable
    readable_as = ap (λ (o : Option Config). passed (unreadable ! o)) read_as

    pub start_as : check_start limits ws ≡ byte_check_start limits bytes
    unfolding check_start start byte_check_start
    start_as = ap (λ (o : Option Config). passed (unreadable ! o >>= λ c. ◌>>◌ (not_fresh unless fresh c) (done c))) read_as

module _ (bytes ws : List ℕ) (e : ws ≡ held 8192 bytes) where
  abbrev read_large : read_config standard ws ≡ read_config standard (words_or_none (words_of bytes))
  read_large = read_as standard 8192 (omega arith) bytes ws e

  pub ends_as : (s : ℕ) → packed_ends (ends standard ws s) ≡ byte_ends bytes s
  unfolding ends known byte_ends
  ends_as s = ap (λ (o : Option Config). packed_ends (counted s (unreadable ! o >>= λ c. ◌>>◌ (unknown_serial unless (ltb 0 s && leb s c.issued)) (done c)))) read_large

  pub pending_as_lem : (e p : ℕ) → packed_pending (pending_at standard ws e p) ≡ byte_pending bytes e p
  unfolding pending_at side_at byte_pending
  pending_as_lem e p = ap (λ (o : Option Config). packed_pending (searched (unreadable ! o >>= λ c. nobody_there ! enabled_at c e p >>= λ a. done a))) read_large

  pub process_as : (e : ℕ) → packed_part (process_part standard ws e) ≡ byte_process bytes e
  unfolding process_part byte_process
  process_as e = ap (λ (o : Option Config). packed_part (part_in e o)) read_large
