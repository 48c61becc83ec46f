-- Joining: who is admitted, what stands in the output, and each refusal, from what the code knows at each return.
-- Assumes nothing.
use Prim.Native.Nat.{ℕ, suc, ◌+◌, ◌-◌, ◌≤◌, ◌<◌}
use native.Mathlib.Omega.{arith}
use mathlib.Core.Path.{◌≡◌, refl, sym, ap, subst, ◌∙◌}
use mathlib.Core.Bool.{Bool, true, false}
use mathlib.Core.Option.{Option, none, some}
use mathlib.Core.List.{List, [], ◌∷◌, ◌++◌}
use lib.Dec.{T, leb, ltb}
use lib.ListN.{length, get_or, set, take, drop, length-append}
use lib.Seq.{take-length}
use borrow.Author.Tests.{lt-ltb, le-ltb, lt-leb, le-leb, ltb-true}
use Rattle.sock.specs.Configuration.{standard, Engine, Config, engine_words, engines_words, encode, read_config}
use Rattle.sock.specs.Calls.{Refusal, unreadable, house_full, not_fresh, long, short, number, Result, refused, done, ◌>>=◌, ◌>>◌, ◌!◌, ◌unless◌, over, passed, check_readable}
use Rattle.sock.specs.Journal.{taken_of, restored_over}
use Rattle.sock.specs.Engines.{newcomer, with_next, admitting, join}
use Rattle.sock.proofs.Logic.{all_some_lem}
use Rattle.sock.proofs.Configuration.{config_found}
use Rattle.sock.proofs.Engines.{newcomer_new, with_words}
use Rattle.writers.specs.Writing.{pasted}
use Rattle.writers.proofs.Over.{pasted_over, pasted_first}
use Rattle.layout.specs.declared.refusal.Refusal.{Refusal as Refused}
use Rattle.layout.specs.Refusals.{refusal_number}
use Rattle.layout.proofs.Refusing.{some_number}
use Rattle.engines.specs.Comer.{is_there}
use Rattle.engines.specs.Placing.{words_with, fitted}

-- ---- who is admitted

module _ (ws : List ℕ) where
  abbrev asked : Option Config → Result Config
  asked o = unreadable ! o >>= λ c. ◌>>◌ (house_full unless ltb (length c.engines) 8) (done c)

  asks : admitting standard ws ≡ asked (read_config standard ws)
  unfolding admitting
  asks = refl

  pub record Read : Type 0 where
    pub config : Config
    pub reads : read_config standard ws ≡ some config
    pub first : get_or ws 0 0 ≡ length config.engines

  pub first_word : (c : Config) → read_config standard ws ≡ some c → get_or ws 0 0 ≡ length c.engines
  unfolding encode
  first_word c r = ap (λ us. get_or us 0 0) (sym (config_found standard ws c r).0)

  pub read_checked : 0 ≡ check_readable standard ws → Read
  unfolding check_readable passed ◌!◌
  read_checked h = by (read_config standard ws) refl h
    where
      by : (o : Option Config) → read_config standard ws ≡ o → 0 ≡ passed (unreadable ! o) → Read
      by none r h = absurd (omega arith)
      by (some c) r h = record { config = c; reads = r; first = first_word c r }

  pub not_read : (r : Refused) → refusal_number r ≡ check_readable standard ws → refusal_number r ≡ passed (admitting standard ws)
  unfolding check_readable passed ◌!◌ ◌>>=◌
  not_read r e = by (read_config standard ws) refl
    where
      by : (o : Option Config) → read_config standard ws ≡ o → refusal_number r ≡ passed (admitting standard ws)
      by none q = e ∙ rw q (sym (ap passed asks ∙ rw q))
      by (some c) q = let z : refusal_number r ≡ 0 = e ∙ rw q in absurd (some_number r z)

  pub full : 0 ≡ check_readable standard ws → 8 ≤ get_or ws 0 0 → 21 ≡ passed (admitting standard ws)
  unfolding passed ◌!◌ ◌>>=◌ ◌>>◌ ◌unless◌
  full e h =
      let k = read_checked e in
      sym (ap passed asks ∙ rw (k.reads, le-ltb (length k.config.engines) 8 (omega (arith, k.first))))

  pub has_room : 0 ≡ check_readable standard ws → get_or ws 0 0 < 8 → 0 ≡ passed (admitting standard ws)
  unfolding passed ◌!◌ ◌>>=◌ ◌>>◌ ◌unless◌
  has_room e h =
      let k = read_checked e in
      sym (ap passed asks ∙ rw (k.reads, lt-ltb (length k.config.engines) 8 (omega (arith, k.first))))

  -- what is known of who is admitted
  pub record Admitted : Type 0 where
    pub config : Config
    pub is_done : admitting standard ws ≡ done config
    pub reads : read_config standard ws ≡ some config
    pub few : length config.engines < 8
    pub first : get_or ws 0 0 ≡ length config.engines

  pub admitted : 0 ≡ passed (admitting standard ws) → Admitted
  unfolding passed ◌!◌ ◌>>=◌ ◌>>◌ ◌unless◌
  admitted e = by (read_config standard ws) refl (e ∙ ap passed asks)
    where
      over_few : (c : Config) → read_config standard ws ≡ some c → (b : Bool) → ltb (length c.engines) 8 ≡ b → 0 ≡ passed (◌>>◌ (house_full unless b) (done c)) → Admitted
      over_few c q true t h =
          record { config = c; is_done = asks ∙ rw (q, t); reads = q; few = ltb-true (length c.engines) 8 t; first = first_word c q }
      over_few c q false t h = absurd (omega arith)

      by : (o : Option Config) → read_config standard ws ≡ o → 0 ≡ passed (asked (read_config standard ws)) → Admitted
      by none q h = let no : ◌≡◌ {A = ℕ} 0 1 = h ∙ rw q in absurd (omega arith)
      by (some c) q h = over_few c q (ltb (length c.engines) 8) refl (h ∙ rw q)

-- there are words
pub read_some : (ws : List ℕ) → 0 ≡ passed (admitting standard ws) → 0 < length ws
unfolding encode
read_some ws e = let a = admitted ws e in omega (arith, ap length (config_found standard ws a.config a.reads).0)

-- and the first is below 8
pub few_admitted : (ws : List ℕ) → 0 ≡ passed (admitting standard ws) → get_or ws 0 0 < 8
few_admitted ws e = let a = admitted ws e in omega (arith, a.few, a.first)

-- ---- 9 and 10

module _ (words : List ℕ) (room : ℕ) where
  refused_long : 8192 < length words → fitted standard words room ≡ refused long
  unfolding fitted ◌>>◌ ◌unless◌
  refused_long h = rw (lt-leb (length words) 8192 h)

  refused_short : length words ≤ 8192 → room < length words → fitted standard words room ≡ refused short
  unfolding fitted ◌>>◌ ◌unless◌
  refused_short h g = rw (le-leb (length words) 8192 h, lt-leb (length words) room g)

  is_fitted : length words ≤ 8192 → length words ≤ room → fitted standard words room ≡ done words
  unfolding fitted ◌>>◌ ◌unless◌
  is_fitted h g = rw (le-leb (length words) 8192 h, le-leb (length words) room g)

-- the words of a configuration with a newcomer behind
known_words : (ws engine : List ℕ) (a : Admitted ws) (e : Engine) (n : ℕ) → suc (length a.config.engines) ≡ n → newcomer standard n engine ≡ some e → encode (with_next a.config e) ≡ words_with n ws engine
unfolding words_with encode
known_words ws engine a e n same t =
    let own : engine_words e ≡ engine = (all_some_lem (newcomer_new standard n engine) t).words in
    let rest : drop 1 ws ≡ a.config.issued ∷ engines_words a.config.engines = ap (drop 1) (sym (config_found standard ws a.config a.reads).0) in
    with_words a.config e ∙ ap (λ us. suc (length a.config.engines) ∷ a.config.issued ∷ engines_words a.config.engines ++ us) own
    ∙ ap (λ k. k ∷ a.config.issued ∷ engines_words a.config.engines ++ engine) same
    ∙ ap (λ us. n ∷ us ++ engine) (sym rest)

-- ---- what is placed

module _ (n : ℕ) (ws engine : List ℕ) (some_words : 0 < length ws) where
  pub with_length : length (words_with n ws engine) ≡ length ws + length engine
  unfolding words_with
  with_length = by ws some_words
    where
      by : (ws : List ℕ) → 0 < length ws → length (n ∷ drop 1 ws ++ engine) ≡ length ws + length engine
      by [] h = absurd (omega arith)
      by (w ∷ ws) h = omega (arith, length-append ws engine)

  pub placed_words :
      (out : List ℕ) → length ws + length engine ≤ length out →
      set (pasted engine 0 (length engine) (pasted ws 0 (length ws) out 0) (length ws)) 0 n ≡ over (words_with n ws engine) out
  unfolding words_with
  placed_words out room =
      let less : length engine - 0 ≡ length engine = omega arith in
      let one : pasted ws 0 (length ws) out 0 ≡ over ws out = pasted_first ws (length ws) out (omega arith) (omega arith) ∙ ap (λ us. over us out) (take-length ws) in
      let two : pasted engine 0 (length engine) (over ws out) (length ws) ≡ over (ws ++ engine) out =
      pasted_over engine 0 (length engine) ws out (length ws) refl (omega arith) (omega arith) (omega arith)
      ∙ ap (λ k. over (ws ++ take k engine) out) less
      ∙ ap (λ us. over (ws ++ us) out) (take-length engine) in
      ap (λ us. set (pasted engine 0 (length engine) us (length ws)) 0 n) one ∙ ap (λ us. set us 0 n) two ∙ by ws some_words
    where
      by : (ws : List ℕ) → 0 < length ws → set (over (ws ++ engine) out) 0 n ≡ over (n ∷ drop 1 ws ++ engine) out
      by [] h = absurd (omega arith)
      by (w ∷ ws) h = refl

  pub too_long : (room : ℕ) → 8192 < length ws + length engine → fitted standard (words_with n ws engine) room ≡ refused long
  too_long room h = refused_long (words_with n ws engine) room (rw with_length h)

  pub too_short : (room : ℕ) → length ws + length engine ≤ 8192 → room < length ws + length engine → fitted standard (words_with n ws engine) room ≡ refused short
  too_short room h g = refused_short (words_with n ws engine) room (rw with_length h) (rw with_length g)

  pub all_fit : (room : ℕ) → length ws + length engine ≤ 8192 → length ws + length engine ≤ room → fitted standard (words_with n ws engine) room ≡ done (words_with n ws engine)
  all_fit room h g = is_fitted (words_with n ws engine) room (rw with_length h) (rw with_length g)

  pub fits : (room : ℕ) → length ws + length engine ≤ 8192 → length ws + length engine ≤ room → record { number = 0; length = length ws + length engine } ≡ taken_of (fitted standard (words_with n ws engine) room)
  unfolding taken_of
  fits room h g = rw (all_fit room h g, with_length)

-- ---- joining

module _ (ws engine : List ℕ) (room : ℕ) where
  refuses : (r : Refused) → refusal_number r ≡ passed (admitting standard ws) → (f : Refusal) × (join standard ws engine room ≡ refused f) × (refusal_number r ≡ number f)
  unfolding join passed ◌>>=◌
  refuses r e = by (admitting standard ws) refl e
    where
      by : (a : Result Config) → admitting standard ws ≡ a → refusal_number r ≡ passed a → (f : Refusal) × (join standard ws engine room ≡ refused f) × (refusal_number r ≡ number f)
      by (refused f) t z = (f, rw t, z)
      by (done c) t z = absurd (some_number r z)

  pub not_admitted : (r : Refused) → refusal_number r ≡ passed (admitting standard ws) → record { number = refusal_number r; length = 0 } ≡ taken_of (join standard ws engine room)
  unfolding taken_of
  not_admitted r e = let f = refuses r e in rw (f.1, f.2)

  pub unchanged : (out : List ℕ) (r : Refused) → refusal_number r ≡ passed (admitting standard ws) → out ≡ restored_over (join standard ws engine room) out
  unfolding restored_over
  unchanged out r e = let f = refuses r e in rw f.1

  module _ (e : 0 ≡ passed (admitting standard ws)) (counted : ℕ) (one_more_lem : counted ≡ get_or ws 0 0 + 1) where
    a : Admitted ws
    a = admitted ws e

    engines_count : suc (length a.config.engines) ≡ counted
    engines_count = omega (arith, a.first)

    abbrev known_as : Option Engine → Result (List ℕ)
    known_as o =
        not_fresh ! o >>= λ e.
        ◌>>◌ (long unless leb (length (encode (with_next a.config e))) 8192)
        (◌>>◌ (short unless leb (length (encode (with_next a.config e))) room) (done (encode (with_next a.config e))))

    joins : join standard ws engine room ≡ known_as (newcomer standard counted engine)
    unfolding join ◌>>=◌
    joins = rw (a.is_done, engines_count)

    pub no_newcomer : (b : Bool) → b ≡ is_there (newcomer standard counted engine) → b ≡ false → join standard ws engine room ≡ refused not_fresh
    unfolding is_there ◌!◌ ◌>>=◌
    no_newcomer b e f = by (newcomer standard counted engine) refl (sym f ∙ e)
      where
        by : (o : Option Engine) → newcomer standard counted engine ≡ o → false ≡ is_there o → join standard ws engine room ≡ refused not_fresh
        by none t z = joins ∙ rw t
        by (some e) t z = absurd (subst T (sym z) tt)

    -- a newcomer that is there is placed behind the others
    pub placed : (b : Bool) → b ≡ is_there (newcomer standard counted engine) → b ≡ true → join standard ws engine room ≡ fitted standard (words_with counted ws engine) room
    unfolding is_there ◌!◌ ◌>>=◌ fitted
    placed b e f = by (newcomer standard counted engine) refl (sym f ∙ e)
      where
        by : (o : Option Engine) → newcomer standard counted engine ≡ o → true ≡ is_there o → join standard ws engine room ≡ fitted standard (words_with counted ws engine) room
        by none t z = absurd (subst T z tt)
        by (some e) t z = joins ∙ rw (t, known_words ws engine a e counted engines_count t)
