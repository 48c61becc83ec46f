-- The step with a journal: with its result in scratch and compared; written; and in a short scratch first.
-- Assumes nothing.
use Prim.Native.Nat.{ℕ, ◌+◌, ◌-◌, ◌≤◌, ◌<◌, min}
use native.Mathlib.Omega.{arith}
use mathlib.Core.Path.{◌≡◌, refl, sym, ap, subst, ◌∙◌}
use mathlib.Core.Bool.{Bool, true, false, cond}
use mathlib.Core.List.{List}
use lib.Dec.{leb, ltb}
use lib.ListN.{length, take, drop}
use lib.Seq.{take-append_seam}
use borrow.Author.Tests.{le-leb, lt-leb, leb-true, ltb-true, ltb-false}
use Rattle.sock.specs.Configuration.{Limits, encode}
use Rattle.sock.specs.Calls.{Refusal, journal_short, short, Result, refused, done, ◌>>=◌, ◌>>◌, ◌unless◌, Numbers as Asked, Stepped, step, Answer, answer_of, output_of, step_answer, step_output, over}
use Rattle.sock.specs.Journal.{alike, alike_behind, journal_of, journal_step, journal_after, journal_answer, journal_output, journal_written}
use Rattle.sock.proofs.Configuration.{config_found}
use Rattle.sock.proofs.Steps.{sure_done_lem, step_fits}
use Rattle.sock.proofs.Turns.{Stepping, step_turns}
use Rattle.sock.proofs.Rooms.{Agree, both_refuse, both_do, one_short, step_agrees, refusal_number as positive}
use Rattle.sock.proofs.Journal.{journal_alike, refused_done}
use Rattle.sock.proofs.Events.{stepped_number}
use Rattle.stepping.specs.Answering.{refusing}
use Rattle.std.specs.Prelude.{Err}
use Rattle.layout.specs.declared.refusal.Refusal.{Refusal as Named}
use Rattle.stepping.specs.Answers.{told}
use Rattle.writers.specs.Writing.{pasted}
use Rattle.journal.specs.declared.compare.Alike.{Alike}
use Rattle.journal.specs.Answers.{comparing}
use Rattle.journal.specs.Comparing.{both_of}
use Rattle.journal.specs.Laying.{lay_w, lay_end}
use Rattle.journal.specs.Stepping.{Compared, needed_of, compared_of, room_in}
use Rattle.stepping.proofs.Refused.{is_refused}
use Rattle.writers.proofs.Over.{over_length, pasted_first}
use Rattle.journal.proofs.Laying.{journal_words, laid_journal, ends_new}

-- ---- room in scratch

pub room_least : (most room : ℕ) → min most room ≡ room_in most room
unfolding room_in
room_least most room = by (ltb most room) refl
  where
    by : (b : Bool) → ltb most room ≡ b → min most room ≡ cond b most room
    by true e = let h = ltb-true most room e in omega arith
    by false e = let h = ltb-false most room e in omega arith

room_below : (most room : ℕ) → room_in most room ≤ room
unfolding room_in
room_below most room = by (ltb most room) refl
  where
    by : (b : Bool) → ltb most room ≡ b → cond b most room ≤ room
    by true e = let h = ltb-true most room e in omega arith
    by false e = omega arith

room_either : (most room n : ℕ) → n ≤ most → n ≤ room → n ≤ room_in most room
unfolding room_in
room_either most room n h g = by (ltb most room)
  where
    by : (b : Bool) → n ≤ cond b most room
    by true = h
    by false = g

-- refused: nothing is compared
refused_by : (y : Result Stepped) (room : ℕ) (ws : List ℕ) (a : Answer) → a ≡ answer_of y → (a.number ≡ 0 → ⊥) → record { answer = a; first = 0; last = 0 } ≡ compared_of room ws y
unfolding compared_of answer_of
refused_by (refused r) room ws a e h = ap (λ (b : Answer). record { answer = b; first = 0; last = 0 }) e
refused_by (done s) room ws a e h = absurd (h (ap (λ (b : Answer). b.number) e))

pub compared_refused :
    (limits : Limits) (ws : List ℕ) (k : Asked) (r0 : List ℕ) (r : Named) (room : ℕ) → told (Err r) ≡ step_answer limits ws k r0 →
    comparing (Err r) ≡ compared_of room ws (step limits ws k (length r0))
unfolding step_answer
compared_refused limits ws k r0 r room e = refused_by (step limits ws k (length r0)) room ws (told (Err r)) e (is_refused r)

module _ (limits : Limits) (few : limits.longest ≤ 8192) where
  -- ---- a step that is done: how long its words are, and what they have alike

  module _ (ws : List ℕ) (k : Asked) (room : ℕ) (s : Stepped) (e : step limits ws k room ≡ done s) where
    pub short_old : length ws ≤ limits.longest
    short_old =
        let x : Stepping limits ws k s = sure_done_lem (step_turns limits ws k room) e in
        let (same, read) = config_found limits ws x.before x.reads in
        rw same at read.short

    few_old : length ws ≤ 8192
    few_old = omega (arith, few, short_old)

    pub short_new : length (encode s.config) ≤ limits.longest
    short_new = (sure_done_lem (step_fits limits ws k room) e).short

    few_new : length (encode s.config) ≤ 8192
    few_new = omega (arith, few, short_new)

    pub needed_is :
        needed_of (length ws) (length (encode s.config)) (alike ws (encode s.config)) (alike_behind (alike ws (encode s.config)) ws (encode s.config))
        ≡ length (journal_of ws (encode s.config))
    unfolding needed_of journal_of
    needed_is =
        let a = journal_alike ws (encode s.config) in
        sym (journal_words ws (encode s.config) (alike ws (encode s.config)) (alike_behind (alike ws (encode s.config)) ws (encode s.config)) a.in_old a.in_new (omega (arith, few_old)) (omega (arith, few_new)))

    pub journal_laid :
        (journal : List ℕ) → length (journal_of ws (encode s.config)) ≤ length journal →
        lay_w ws (encode s.config) (alike ws (encode s.config)) (alike_behind (alike ws (encode s.config)) ws (encode s.config)) journal
        ≡ over (journal_of ws (encode s.config)) journal
    unfolding journal_of
    journal_laid journal h =
        let a = journal_alike ws (encode s.config) in
        laid_journal ws (encode s.config) (alike ws (encode s.config)) (alike_behind (alike ws (encode s.config)) ws (encode s.config)) a.in_old a.in_new (omega (arith, few_old)) (omega (arith, few_new)) journal h

  as_needed : (old new first last : ℕ) → 4 + (old - (first + last)) + (new - (first + last)) ≡ needed_of old new first last
  unfolding needed_of
  as_needed old new first last = refl

  -- ---- compared

  done_fits : {longest room half : ℕ} {x y : Result Stepped} {s : Stepped} → Agree longest room half x y → x ≡ done s → length (encode s.config) ≤ room
  done_fits (both_refuse r) e = absurd (refused_done e)
  done_fits {room = room} {s = s} (both_do t h) e = let q : t ≡ s = cc in subst (λ t. length (encode t.config) ≤ room) q h
  done_fits (one_short t h g l) e = absurd (refused_done e)

  room_true :
      (ws : List ℕ) (s : Stepped) (room : ℕ) → leb (length (journal_of ws (encode s.config))) room ≡ true →
      compared_of room ws (done s)
      ≡ record { answer = answer_of (done s); first = alike ws (encode s.config); last = alike_behind (alike ws (encode s.config)) ws (encode s.config) }
  unfolding compared_of
  room_true ws s room e = rw e

  room_false :
      (ws : List ℕ) (s : Stepped) (room : ℕ) → leb (length (journal_of ws (encode s.config))) room ≡ false →
      compared_of room ws (done s) ≡ record { answer = refusing 16; first = 0; last = 0 }
  unfolding compared_of
  room_false ws s room e = rw e

  -- what the code knows once the step was taken in scratch
  pub record Took (ws : List ℕ) (k : Asked) (r0 r1 : List ℕ) (a : Answer) : Type 0 where
    pub answered : a ≡ step_answer limits ws k r0
    pub written : r1 ≡ step_output limits ws k r0

  module _ (ws : List ℕ) (k : Asked) (r0 r1 : List ℕ) (a : Answer) (t : Took ws k r0 r1 a) where
    by_step : a ≡ answer_of (step limits ws k (length r0))
    unfolding step_answer
    by_step = t.answered

    -- done
    pub record Did : Type 0 where
      pub next : Stepped
      pub is_done : step limits ws k (length r0) ≡ done next
      pub long : a.length ≡ length (encode next.config)
      pub words : take a.length r1 ≡ encode next.config
      pub fits : length (encode next.config) ≤ length r0
      pub keeps : length r1 ≡ length r0

    pub did : a.number ≡ 0 → Did
    unfolding step_output output_of answer_of
    did h =
        let (s, d) = stepped_number (step limits ws k (length r0)) (sym (ap (λ (b : Answer). b.number) by_step) ∙ h) in
        let l : a.length ≡ length (encode s.config) = ap (λ (b : Answer). b.length) by_step ∙ ap (λ (y : Result Stepped). (answer_of y).length) d in
        let o : r1 ≡ over (encode s.config) r0 = t.written ∙ ap (λ (y : Result Stepped). output_of y r0) d in
        let f : length (encode s.config) ≤ length r0 = done_fits (step_agrees limits (length r0) (length r0) (omega arith) ws k) d in
        record {
          next = s;
          is_done = d;
          long = l;
          words = ap (λ (n : ℕ). take n r1) l ∙ ap (take (length (encode s.config))) o ∙ take-append_seam (encode s.config) (drop (length (encode s.config)) r0);
          fits = f;
          keeps = ap length o ∙ over_length (encode s.config) r0 f;
        }

    -- compared: the counts are the definitions', and 16 where the journal has no room
    module _ (d : Did) (first last room : ℕ) (p : ◌≡◌ {A = Alike} (record { first = first; last = last }) (both_of ws (take a.length r1))) where
      first_is : first ≡ alike ws (encode d.next.config)
      first_is = ap (λ (x : Alike). x.first) p ∙ ap (alike ws) d.words

      last_is : last ≡ alike_behind (alike ws (encode d.next.config)) ws (encode d.next.config)
      last_is = ap (λ (x : Alike). x.last) p ∙ ap (λ (u : List ℕ). alike_behind (alike ws u) ws u) d.words

      pub alike_in : (first + last ≤ length ws) × (first + last ≤ a.length) × (length ws ≤ 65535) × (a.length ≤ 65535)
      alike_in =
          let al = journal_alike ws (encode d.next.config) in
          let fo = few_old ws k (length r0) d.next d.is_done in
          let fn = few_new ws k (length r0) d.next d.is_done in
          (omega (arith, first_is, last_is, al.in_old), omega (arith, first_is, last_is, al.in_new, d.long), omega (arith, fo), omega (arith, fn, d.long))

      needs_is : needed_of (length ws) a.length first last ≡ length (journal_of ws (encode d.next.config))
      needs_is =
          ap (λ (n : ℕ). needed_of (length ws) n first last) d.long
          ∙ ap (λ (n : ℕ). needed_of (length ws) (length (encode d.next.config)) n last) first_is
          ∙ ap (needed_of (length ws) (length (encode d.next.config)) (alike ws (encode d.next.config))) last_is
          ∙ needed_is ws k (length r0) d.next d.is_done

      done_answer : a ≡ answer_of (done d.next)
      done_answer = by_step ∙ ap (λ (y : Result Stepped). answer_of y) d.is_done

      pub compared_short : room < needed_of (length ws) a.length first last → record { answer = refusing 16; first = 0; last = 0 } ≡ compared_of room ws (step limits ws k (length r0))
      compared_short h =
          sym
          (ap (compared_of room ws) d.is_done
          ∙ room_false ws d.next room (lt-leb (length (journal_of ws (encode d.next.config))) room (omega (arith, needs_is))))

      pub compared_done : needed_of (length ws) a.length first last ≤ room → record { answer = a; first = first; last = last } ≡ compared_of room ws (step limits ws k (length r0))
      compared_done h =
          sym
          (ap (compared_of room ws) d.is_done
          ∙ room_true ws d.next room (le-leb (length (journal_of ws (encode d.next.config))) room (omega (arith, needs_is)))
          ∙ ap (λ (b : Answer). record { answer = b; first = alike ws (encode d.next.config); last = alike_behind (alike ws (encode d.next.config)) ws (encode d.next.config) }) (sym done_answer)
          ∙ ap (λ (n : ℕ). record { answer = a; first = n; last = alike_behind (alike ws (encode d.next.config)) ws (encode d.next.config) }) (sym first_is)
          ∙ ap (λ (n : ℕ). record { answer = a; first = first; last = n }) (sym last_is))

  -- ---- written

  -- what becomes of a step's result, if the journal has room for n words
  unfoldable lent : ℕ → List ℕ → Result Stepped → Result Stepped
  lent n ws y = y >>= λ t. ◌>>◌ (journal_short unless leb (length (journal_of ws (encode t.config))) n) (done t)

  lent_is : (ws : List ℕ) (k : Asked) (room n : ℕ) → journal_step limits ws k room n ≡ lent n ws (step limits ws k room)
  unfolding journal_step lent
  lent_is ws k room n = refl

  data View (n : ℕ) (ws : List ℕ) (y : Result Stepped) : Type 0 where
    not_accepted : (r : Refusal) → (compared_of n ws y).answer ≡ answer_of (refused r) → lent n ws y ≡ refused r → View n ws y
    is_accepted :
        (s : Stepped) → y ≡ done s → length (journal_of ws (encode s.config)) ≤ n →
        compared_of n ws y
        ≡ record { answer = answer_of (done s); first = alike ws (encode s.config); last = alike_behind (alike ws (encode s.config)) ws (encode s.config) } →
        lent n ws y ≡ done s →
        View n ws y

  lent_true : (n : ℕ) (ws : List ℕ) (s : Stepped) → leb (length (journal_of ws (encode s.config))) n ≡ true → lent n ws (done s) ≡ done s
  unfolding lent ◌>>=◌ ◌>>◌ ◌unless◌
  lent_true n ws s e = rw e

  lent_false : (n : ℕ) (ws : List ℕ) (s : Stepped) → leb (length (journal_of ws (encode s.config))) n ≡ false → lent n ws (done s) ≡ refused journal_short
  unfolding lent ◌>>=◌ ◌>>◌ ◌unless◌
  lent_false n ws s e = rw e

  refused_answer : (n : ℕ) (ws : List ℕ) (r : Refusal) → (compared_of n ws (refused r)).answer ≡ answer_of (refused r)
  unfolding compared_of
  refused_answer n ws r = refl

  refused_lent : (n : ℕ) (ws : List ℕ) (r : Refusal) → lent n ws (refused r) ≡ refused r
  unfolding lent ◌>>=◌
  refused_lent n ws r = refl

  short_answer : refusing 16 ≡ answer_of (refused journal_short)
  unfolding answer_of
  short_answer = refl

  view : (n : ℕ) (ws : List ℕ) (y : Result Stepped) → View n ws y
  view n ws (refused r) = not_accepted r (refused_answer n ws r) (refused_lent n ws r)
  view n ws (done s) = by (leb (length (journal_of ws (encode s.config))) n) refl
    where
      by : (b : Bool) → leb (length (journal_of ws (encode s.config))) n ≡ b → View n ws (done s)
      by true e = is_accepted s refl (leb-true _ n e) (room_true ws s n e) (lent_true n ws s e)
      by false e = not_accepted journal_short (ap (λ (c : Compared). c.answer) (room_false ws s n e) ∙ short_answer) (lent_false n ws s e)

  refused_number : (r : Refusal) → (answer_of (refused r)).number ≡ 0 → ⊥
  unfolding answer_of
  refused_number r e = let h = positive r in omega arith

  done_number : (s : Stepped) → (answer_of (done s)).number ≡ 0
  unfolding answer_of
  done_number s = refl

  done_length : (s : Stepped) → (answer_of (done s)).length ≡ length (encode s.config)
  unfolding answer_of
  done_length s = refl

  module _ (ws : List ℕ) (k : Asked) (r0 out journal : List ℕ) (c : Compared)
      (e : c ≡ compared_of (length journal) ws (step limits ws k (length r0))) where
    abbrev whole : Result Stepped
    whole = journal_step limits ws k (length r0) (length journal)

    seen : View (length journal) ws (step limits ws k (length r0))
    seen = view (length journal) ws (step limits ws k (length r0))

    -- not accepted: nothing is written
    pub record Kept : Type 0 where
      pub answer : c.answer ≡ answer_of (journal_step limits ws k (length r0) (length journal))
      pub keeps_out : out ≡ output_of (journal_step limits ws k (length r0) (length journal)) out
      pub keeps_journal : journal ≡ journal_after ws (journal_step limits ws k (length r0) (length journal)) journal

    pub kept : (c.answer.number ≡ 0 → ⊥) → Kept
    unfolding output_of journal_after
    kept h = by seen
      where
        by : View (length journal) ws (step limits ws k (length r0)) → Kept
        by (not_accepted r p q) =
            let w : journal_step limits ws k (length r0) (length journal) ≡ refused r = lent_is ws k (length r0) (length journal) ∙ q in
            record {
              answer = ap (λ (b : Compared). b.answer) e ∙ p ∙ ap (λ (y : Result Stepped). answer_of y) (sym w);
              keeps_out = sym (ap (λ (y : Result Stepped). output_of y out) w);
              keeps_journal = sym (ap (λ (y : Result Stepped). journal_after ws y journal) w);
            }
        by (is_accepted s d l p q) = absurd (h (ap (λ (b : Compared). b.answer.number) (e ∙ p) ∙ done_number s))

    -- accepted: the result over the output, the journal over what was lent for it
    pub record Wrote : Type 0 where
      pub next : Stepped
      pub is_done : step limits ws k (length r0) ≡ done next
      pub room : length (journal_of ws (encode next.config)) ≤ length journal
      pub long : c.answer.length ≡ length (encode next.config)
      pub first : c.first ≡ alike ws (encode next.config)
      pub last : c.last ≡ alike_behind (alike ws (encode next.config)) ws (encode next.config)
      pub answer : c.answer ≡ answer_of (journal_step limits ws k (length r0) (length journal))
      pub writes_out : over (encode next.config) out ≡ output_of (journal_step limits ws k (length r0) (length journal)) out
      pub writes_journal :
          over (journal_of ws (encode next.config)) journal ≡ journal_after ws (journal_step limits ws k (length r0) (length journal)) journal

    pub wrote : c.answer.number ≡ 0 → Wrote
    unfolding output_of journal_after
    wrote h = by seen
      where
        by : View (length journal) ws (step limits ws k (length r0)) → Wrote
        by (not_accepted r p q) = absurd (refused_number r (sym (ap (λ (b : Compared). b.answer.number) e ∙ ap (λ (b : Answer). b.number) p) ∙ h))
        by (is_accepted s d l p q) =
            let w : journal_step limits ws k (length r0) (length journal) ≡ done s = lent_is ws k (length r0) (length journal) ∙ q in
            record {
              next = s;
              is_done = d;
              room = l;
              long = ap (λ (b : Compared). b.answer.length) (e ∙ p) ∙ done_length s;
              first = ap (λ (b : Compared). b.first) (e ∙ p);
              last = ap (λ (b : Compared). b.last) (e ∙ p);
              answer = ap (λ (b : Compared). b.answer) (e ∙ p) ∙ ap (λ (y : Result Stepped). answer_of y) (sym w);
              writes_out = sym (ap (λ (y : Result Stepped). output_of y out) w);
              writes_journal = sym (ap (λ (y : Result Stepped). journal_after ws y journal) w);
            }

    -- the words in scratch, once the step is done
    module _ (z : Wrote) (r1 : List ℕ) (q : r1 ≡ step_output limits ws k r0) where
      pub in_scratch : r1 ≡ over (encode z.next.config) r0
      unfolding step_output output_of
      in_scratch = q ∙ ap (λ (y : Result Stepped). output_of y r0) z.is_done

      pub scratch_fits : c.answer.length ≤ length r0
      scratch_fits = omega (arith, z.long, done_fits (step_agrees limits (length r0) (length r0) (omega arith) ws k) z.is_done)

      pub scratch_length : length r1 ≡ length r0
      scratch_length = ap length in_scratch ∙ over_length (encode z.next.config) r0 (omega (arith, z.long, scratch_fits))

      pub scratch_words : take c.answer.length r1 ≡ encode z.next.config
      scratch_words =
          ap (λ (n : ℕ). take n r1) z.long
          ∙ ap (take (length (encode z.next.config))) in_scratch
          ∙ take-append_seam (encode z.next.config) (drop (length (encode z.next.config)) r0)

      -- copied to an output that is no shorter than the scratch
      pub copied : length r0 ≤ length out → pasted r1 0 c.answer.length out 0 ≡ output_of (journal_step limits ws k (length r0) (length journal)) out
      copied h =
          pasted_first r1 c.answer.length out (omega (arith, scratch_fits, scratch_length)) (omega (arith, scratch_fits))
          ∙ ap (λ (u : List ℕ). over u out) scratch_words
          ∙ z.writes_out

      pub noted : lay_w ws (take c.answer.length r1) c.first c.last journal ≡ journal_after ws (journal_step limits ws k (length r0) (length journal)) journal
      noted =
          ap (λ (u : List ℕ). lay_w ws u c.first c.last journal) scratch_words
          ∙ ap (λ (n : ℕ). lay_w ws (encode z.next.config) n c.last journal) z.first
          ∙ ap (λ (n : ℕ). lay_w ws (encode z.next.config) (alike ws (encode z.next.config)) n journal) z.last
          ∙ journal_laid ws k (length r0) z.next z.is_done journal z.room
          ∙ z.writes_journal

      -- and as many words as the journal has
      pub noted_end : lay_end ws (take c.answer.length r1) c.first c.last ≡ length (journal_of ws (encode z.next.config))
      noted_end =
          let a = journal_alike ws (encode z.next.config) in
          let fo = few_old ws k (length r0) z.next z.is_done in
          let fn = few_new ws k (length r0) z.next z.is_done in
          ap (λ (u : List ℕ). lay_end ws u c.first c.last) scratch_words
          ∙ ap (λ (n : ℕ). lay_end ws (encode z.next.config) n c.last) z.first
          ∙ ap (lay_end ws (encode z.next.config) (alike ws (encode z.next.config))) z.last
          ∙ ends_new ws (encode z.next.config) _ _ a.in_old a.in_new (omega (arith, fo)) (omega (arith, fn))
          ∙ as_needed (length ws) (length (encode z.next.config)) _ _
          ∙ needed_is ws k (length r0) z.next z.is_done

      pub noted_words : lay_w ws (take c.answer.length r1) c.first c.last journal ≡ over (journal_of ws (encode z.next.config)) journal
      noted_words = noted ∙ sym z.writes_journal

  -- of a step that is refused
  module _ (ws : List ℕ) (k : Asked) (r0 out journal : List ℕ) (r : Named)
      (e : comparing (Err r) ≡ compared_of (length journal) ws (step limits ws k (length r0))) where
    pub kept_answer : told (Err r) ≡ answer_of (journal_step limits ws k (length r0) (length journal))
    kept_answer = (kept ws k r0 out journal (comparing (Err r)) e (is_refused r)).answer

    pub kept_out : out ≡ output_of (journal_step limits ws k (length r0) (length journal)) out
    kept_out = (kept ws k r0 out journal (comparing (Err r)) e (is_refused r)).keeps_out

    pub kept_journal : journal ≡ journal_after ws (journal_step limits ws k (length r0) (length journal)) journal
    kept_journal = (kept ws k r0 out journal (comparing (Err r)) e (is_refused r)).keeps_journal

  -- ---- in scratch of two sizes

  same_journal : (ws : List ℕ) (k : Asked) (room half n : ℕ) → step limits ws k room ≡ step limits ws k half → journal_step limits ws k room n ≡ journal_step limits ws k half n
  same_journal ws k room half n e = lent_is ws k room n ∙ ap (lent n ws) e ∙ sym (lent_is ws k half n)

  -- with scratch for every result
  pub large_same : (ws : List ℕ) (k : Asked) (most room n m : ℕ) → limits.longest ≤ most → m ≡ room_in most room → journal_step limits ws k m n ≡ journal_step limits ws k room n
  large_same ws k most room n m all q =
      ap (λ (i : ℕ). journal_step limits ws k i n) q
      ∙ same_journal ws k (room_in most room) room n (by (step_agrees limits (room_in most room) room (room_below most room) ws k))
    where
      by : {x y : Result Stepped} → Agree limits.longest (room_in most room) room x y → x ≡ y
      by (both_refuse r) = refl
      by (both_do s h) = refl
      by (one_short s h g l) = absurd (omega (arith, room_either most room (length (encode s.config)) (omega (arith, h, all)) g))

  module _ (ws : List ℕ) (k : Asked) (out journal : List ℕ) (most m : ℕ) (all : limits.longest ≤ most) (q : m ≡ room_in most (length out)) where
    pub large_answer : answer_of (journal_step limits ws k m (length journal)) ≡ journal_answer limits ws k out journal
    unfolding journal_answer
    large_answer = ap (λ (y : Result Stepped). answer_of y) (large_same ws k most (length out) (length journal) m all q)

    pub large_output : output_of (journal_step limits ws k m (length journal)) out ≡ journal_output limits ws k out journal
    unfolding journal_output
    large_output = ap (λ (y : Result Stepped). output_of y out) (large_same ws k most (length out) (length journal) m all q)

    pub large_journal : journal_after ws (journal_step limits ws k m (length journal)) journal ≡ journal_written limits ws k out journal
    unfolding journal_written
    large_journal = ap (λ (y : Result Stepped). journal_after ws y journal) (large_same ws k most (length out) (length journal) m all q)

  -- a step in a short scratch that is not refused for that
  module _ (ws : List ℕ) (k : Asked) (out journal : List ℕ) (a : Answer)
      (p : a ≡ answer_of (journal_step limits ws k (room_in 1024 (length out)) (length journal))) where
    abbrev tried : Result Stepped
    tried = journal_step limits ws k (room_in 1024 (length out)) (length journal)

    number_is : a.number ≡ (answer_of (journal_step limits ws k (room_in 1024 (length out)) (length journal))).number
    number_is = ap (λ (b : Answer). b.number) p

    short_lent : step limits ws k (room_in 1024 (length out)) ≡ refused short → (answer_of (journal_step limits ws k (room_in 1024 (length out)) (length journal))).number ≡ 10
    unfolding answer_of
    short_lent e = ap (λ (y : Result Stepped). (answer_of y).number) (lent_is ws k (room_in 1024 (length out)) (length journal) ∙ ap (lent (length journal) ws) e ∙ refused_lent (length journal) ws short)

    same : (a.number ≡ 10 → ⊥) → journal_step limits ws k (room_in 1024 (length out)) (length journal) ≡ journal_step limits ws k (length out) (length journal)
    same h =
        same_journal ws k (room_in 1024 (length out)) (length out) (length journal)
        (by (step_agrees limits (room_in 1024 (length out)) (length out) (room_below 1024 (length out)) ws k) refl)
      where
        by : {x y : Result Stepped} → Agree limits.longest (room_in 1024 (length out)) (length out) x y → step limits ws k (room_in 1024 (length out)) ≡ x → x ≡ y
        by (both_refuse r) e = refl
        by (both_do s g) e = refl
        by (one_short s g i l) e = absurd (h (number_is ∙ short_lent e))

    pub small_answer : (a.number ≡ 10 → ⊥) → a ≡ journal_answer limits ws k out journal
    unfolding journal_answer
    small_answer h = p ∙ ap (λ (y : Result Stepped). answer_of y) (same h)

    pub small_output : (a.number ≡ 10 → ⊥) → output_of (journal_step limits ws k (room_in 1024 (length out)) (length journal)) out ≡ journal_output limits ws k out journal
    unfolding journal_output
    small_output h = ap (λ (y : Result Stepped). output_of y out) (same h)

    pub small_journal : (a.number ≡ 10 → ⊥) → journal_after ws (journal_step limits ws k (room_in 1024 (length out)) (length journal)) journal ≡ journal_written limits ws k out journal
    unfolding journal_written
    small_journal h = ap (λ (y : Result Stepped). journal_after ws y journal) (same h)

    -- refused, it has changed no word
    refused_keeps : (y : Result Stepped) → ((answer_of y).number ≡ 0 → ⊥) → (output_of y out ≡ out) × (journal_after ws y journal ≡ journal)
    unfolding answer_of output_of journal_after
    refused_keeps (refused r) h = (refl, refl)
    refused_keeps (done s) h = absurd (h refl)

    pub small_keeps : a.number ≡ 10 → (output_of (journal_step limits ws k (room_in 1024 (length out)) (length journal)) out ≡ out) × (journal_after ws (journal_step limits ws k (room_in 1024 (length out)) (length journal)) journal ≡ journal)
    small_keeps h = refused_keeps tried (λ z. omega (arith, number_is))

  -- taken again with what is as it was
  module _ (ws : List ℕ) (k : Asked) {out out' journal journal' : List ℕ} (o : out' ≡ out) (j : journal' ≡ journal) where
    pub again_answer : journal_answer limits ws k out' journal' ≡ journal_answer limits ws k out journal
    again_answer = rw (o, j)

    pub again_output : journal_output limits ws k out' journal' ≡ journal_output limits ws k out journal
    again_output = rw (o, j)

    pub again_journal : journal_written limits ws k out' journal' ≡ journal_written limits ws k out journal
    again_journal = rw (o, j)

-- what the result's words have alike, by the number of its length
pub alike_words : (ws out : List ℕ) {n m : ℕ} {alike : Alike} → n ≡ m → alike ≡ both_of ws (take n out) → alike ≡ both_of ws (take m out)
alike_words ws out e q = q ∙ ap (λ (n : ℕ). both_of ws (take n out)) e
