-- What the receiver of a message turns into, on words: a one-way that hears, a request that serves.
-- Assumes nothing.
use Prim.Native.Nat.{ℕ, suc, ◌+◌, ◌*◌, ◌%◌, ◌<◌, ◌≤◌}
use native.Mathlib.Omega.{arith}
use mathlib.Core.Path.{◌≡◌, refl, sym, ap, ◌∙◌}
use mathlib.Core.Bool.{Bool, true, false, cond}
use mathlib.Core.Option.{Option}
use mathlib.Core.List.{List, [], ◌∷◌, ◌++◌, append-nil, append_assoc}
use borrow.Author.Tests.{eq-eqb, ne_eqb}
use lib.Dec.{eqb}
use lib.ListN.{length, take, drop, set, length-append, length-set}
use lib.Seq.{drop-drop}
use Rattle.sock.specs.Words.{name_of, second_of, first_variable, head_of, name_fields}
use Rattle.sock.specs.Variables.{first_of, variable_words}
use Rattle.sock.specs.Term.{Node, node, absent, no_parts, ◌&◌}
use Rattle.sock.specs.Layout.{words, depth, exprs_words, exprs_depth}
use Rattle.sock.specs.Reading.{code, anywhere}
use Rattle.sock.specs.Running.{Run, nil, seq, executor, run_words, run_depth, enable}
use Rattle.sock.specs.Frames.{is_done, seq_of}
use Rattle.sock.specs.Rules.{followed}
use Rattle.sock.proofs.Fits.{Fits}
use Rattle.sock.proofs.Running.{enable_as_node}
use Rattle.sock.proofs.Measures.{words_seq, words_executor, depth_nil, depth_seq, depth_executor}
use Rattle.layout.specs.Own.{variables_end}
use Rattle.layout.specs.Positions.{onward}
use Rattle.writers.proofs.Laid.{Near, onward_near, Laid, laid_put, laid_then}
use Rattle.rules.specs.Storing.{Store}
use Rattle.rules.specs.Rewriting.{Rewriting}
use Rattle.rules.specs.Rewriting.{vanishing, keeping, at, part_w}
use Rattle.layout.specs.Heads.{executor_head}
use Rattle.rules.specs.Offering.{Offer, hear_w, seq_first, three_to, three_w, serve_w}
use Rattle.rules.proofs.Rewrites.{Becomes, becomes_nil, after, first_at, enable_words, part_becomes}
use Rattle.rules.proofs.Depths.{depth_some}
use Rattle.rules.proofs.Shapes.{Headed}
use Rattle.rules.proofs.Messages.{Listed, words_counted, ends_at}
use Rattle.rules.proofs.Offers.{Stands, bare_stands, branch_stands}

-- r turns into q, no deeper, and variables take what the store says
pub record Takes (r q : Run) (t : Rewriting) (fresh : List ℕ) (store : Store) : Type 0 where
  pub becomes : Becomes r q t fresh
  pub takes : t.store ≡ store
  pub shallow : run_depth q ≤ run_depth r

-- ---- fresh words

-- three of them
module _ (fresh : List ℕ) (to : ℕ) (near : Near (length fresh)) (room : to + 3 ≤ length fresh) where
  one_on : onward to 1 ≡ to + 1
  one_on = onward_near to 1 (length fresh) near (omega arith)

  two_on : onward (to + 1) 1 ≡ to + 1 + 1
  two_on = onward_near (to + 1) 1 (length fresh) near (omega arith)

  three_on : onward (to + 1 + 1) 1 ≡ to + 3
  three_on = onward_near (to + 1 + 1) 1 (length fresh) near (omega arith) ∙ (let z : to + 1 + 1 + 1 ≡ to + 3 = omega arith in z)

  pub three_to_lem : three_to to ≡ to + 3
  unfolding three_to
  three_to_lem = rw (one_on, two_on) three_on

  pub three_laid : (a b c : ℕ) → Laid fresh to (a ∷ b ∷ c ∷ []) (three_w fresh to a b c)
  unfolding three_w
  three_laid a b c =
      rw (one_on, two_on)
      (laid_then (laid_put fresh to a (omega arith))
      (laid_then (laid_put (set fresh to a) (to + 1) b (omega (arith, length-set fresh to a)))
      (laid_put (set (set fresh to a) (to + 1) b) (to + 1 + 1) c
      (omega (arith, length-set fresh to a, length-set (set fresh to a) (to + 1) b)))))

-- from the start on
pub laid_first : {fresh new last : List ℕ} → Laid fresh 0 new last → take (length new) last ≡ new
laid_first {new = new} {last} l = ap (λ k. take k last) (let z : length new ≡ 0 + length new = omega arith in z) ∙ l.begins

-- fresh words before words of its own
pub keeps :
    {old fresh : List ℕ} (r q : Run) (count from upto end : ℕ) (store : Store) (before kept behind new : List ℕ) →
    is_done q ≡ false →
    run_words r ≡ before ++ (kept ++ behind) →
    run_words q ≡ new ++ kept →
    Laid old 0 new fresh →
    length new ≤ length old →
    count ≡ length new →
    from ≡ length before →
    upto ≡ from + length kept →
    end ≡ upto + length behind →
    Becomes r q (keeping count from upto end store) fresh
keeps {fresh = fresh} r q count from upto end store before kept behind new lives whole made laid room c f u e =
    record {
      accepted = refl;
      empty = sym lives;
      pieces = λ z.
          record {
            before = before;
            kept = kept;
            behind = behind;
            whole = whole;
            made = made ∙ ap (λ l. l ++ kept) (sym (ap (λ k. take k fresh) c ∙ laid_first laid));
            from = f;
            upto = u;
            ends = e;
            room = omega (arith, laid.keeps);
          };
    }

enable_depth : {m : Node} → Fits (code false) anywhere m → run_depth (enable m) ≡ depth m
unfolding run_depth
enable_depth f = ap depth (enable_as_node f)

words_some : (m : Node) → 0 < length (words m)
unfolding words
words_some (node h f es b ps) = omega arith

part_stores : (ws : List ℕ) (from upto end : ℕ) (store : Store) → (part_w ws from upto end store).store ≡ store
unfolding part_w
part_stores ws from upto end store = by (eqb (at ws from) 0)
  where
    by : (b : Bool) → (cond b (vanishing store) (keeping 0 from upto end store)).store ≡ store
    by true = refl
    by false = refl

-- ---- a one-way hears

module _ (ws rest : List ℕ) (r : Run) (stands : ws ≡ run_words r ++ rest) (o : Offer) (fresh : List ℕ) (store : Store) where
  pub hear_rewrites : {m : Node} {next : Option Node} → Stands r o m next → Takes r (followed nil next) (hear_w ws o store) fresh store
  unfolding hear_w followed seq_of is_done
  hear_rewrites (bare_stands w d a b c e) =
      rw (eq-eqb o.next 0 b) (record { becomes = becomes_nil r store fresh; takes = refl; shallow = omega (arith, depth_nil, depth_some r) })
  hear_rewrites {m} (branch_stands {q = q} before behind w f dm dq a b c e) =
      let ahead : run_words r ≡ (before ++ words m) ++ (words q ++ behind) = w ∙ sym (append_assoc before (words m) (words q ++ behind)) in
      let from : o.next ≡ length (before ++ words m) = b ∙ sym (length-append before (words m)) in
      rw (ne_eqb o.next 0 (λ z. omega (arith, words_some m)))
      (record {
        becomes = part_becomes ws rest r q f (before ++ words m) behind stands ahead store fresh o.next o.upto o.end from c e;
        takes = part_stores ws o.next o.upto o.end store;
        shallow = omega (arith, enable_depth f);
      })

-- ---- a request serves

pub first_place : onward 0 1 ≡ 1
unfolding onward
first_place = refl

module _ (g w : ℕ) (x y : List ℕ) (first : Headed (second_of g) x) (second : Headed (first_variable w) y) (p : Node) (fp : Fits (code false) anywhere p) where
  abbrev asked : Node
  asked = node g (w ∷ variable_words x ++ variable_words y) [] absent (p & no_parts)

  -- its words up to those that it keeps, and these
  abbrev given : List ℕ
  given = g ∷ w ∷ variable_words x

  abbrev stays : List ℕ
  stays = variable_words y ++ words p

  asked_words : words asked ≡ given ++ stays
  unfolding words exprs_words
  asked_words =
      ap (λ l. g ∷ w ∷ ((variable_words x ++ variable_words y) ++ l)) (append-nil (words p))
      ∙ ap (λ l. g ∷ w ∷ l) (append_assoc (variable_words x) (variable_words y) (words p))

  asked_depth : depth asked ≡ suc (depth p)
  unfolding depth exprs_depth
  asked_depth = omega arith

  module _ (client serial : ℕ) where
    abbrev served : Run
    served = executor (name_of g) y client serial (enable p)

    served_words : run_words served ≡ (executor_head g w ∷ (client * 8192) ∷ serial ∷ []) ++ stays
    served_words =
        words_executor (name_of g) y client serial (enable p)
        ∙ ap (λ l. head_of 16 (name_fields (name_of g) (first_of y)) ∷ (client * 8192) ∷ serial ∷ (variable_words y ++ l)) (enable_words fp)
        ∙ ap (λ k. head_of 16 (name_fields (name_of g) k) ∷ (client * 8192) ∷ serial ∷ stays) second.begins

    served_depth : run_depth served ≡ depth asked
    served_depth = depth_executor (name_of g) y client serial (enable p) ∙ (ap suc (enable_depth fp) ∙ sym asked_depth)

    module _ (ws rest : List ℕ) (r : Run) (stands : ws ≡ run_words r ++ rest) (close : Near (length ws)) (o : Offer) (fresh : List ℕ)
        (near : Near (length fresh)) (room : 4 ≤ length fresh) (store : Store) where
      -- the request's own words, and the places behind its head
      module _ (before more : List ℕ) (whole : run_words r ≡ before ++ (words asked ++ more)) (a : o.guard ≡ length before) where
        listing : ws ≡ before ++ (g ∷ w ∷ (variable_words x ++ (stays ++ (more ++ rest))))
        listing =
            stands
            ∙ (ap (λ l. l ++ rest) whole
            ∙ (append_assoc before (words asked ++ more) rest
            ∙ ap (λ l. before ++ l)
            (append_assoc (words asked) more rest
            ∙ (ap (λ l. l ++ (more ++ rest)) asked_words ∙ append_assoc given stays (more ++ rest)))))

        request_stands : drop (length before) ws ≡ g ∷ w ∷ (variable_words x ++ (stays ++ (more ++ rest)))
        request_stands = after ws before _ (length before) listing refl

        within : length before + 2 ≤ length ws
        within = omega (arith, ap length listing, length-append before (g ∷ w ∷ (variable_words x ++ (stays ++ (more ++ rest)))))

        second_place : onward o.guard 1 ≡ length before + 1
        second_place = ap (λ k. onward k 1) a ∙ onward_near (length before) 1 (length ws) close (omega (arith, within))

        third_place : onward o.guard 2 ≡ length before + 2
        third_place = ap (λ k. onward k 2) a ∙ onward_near (length before) 2 (length ws) close (omega (arith, within))

        second_word : at ws (length before + 1) ≡ w
        second_word = first_at ws (length before + 1) w _ (sym (drop-drop 1 (length before) ws) ∙ ap (drop 1) request_stands)

        pub list_stands : Listed ws (length before + 2) x
        list_stands =
            record {
              fitting = first.fitting;
              behind = stays ++ (more ++ rest);
              stands = sym (drop-drop 2 (length before) ws) ∙ ap (drop 2) request_stands;
            }

        kept_from : variables_end ws (length before + 2) ≡ length before + length given
        kept_from = ends_at list_stands ∙ omega (arith, words_counted x)

      pub serve_rewrites :
          {next : Option Node} → client < 8 → at ws o.guard ≡ g → Stands r o asked next →
          Takes r (followed served next) (serve_w ws o client serial store fresh).rewriting (serve_w ws o client serial store fresh).fresh store
      unfolding serve_w seq_first followed seq_of is_done
      serve_rewrites known h (bare_stands e d a b c f) =
          let three_bits : client % 8 ≡ client = omega arith in
          let whole : run_words r ≡ [] ++ (words asked ++ []) = e ∙ sym (append-nil (words asked)) in
          let long : length (words asked) ≡ length given + length stays = ap length asked_words ∙ length-append given stays in
          let mine : run_words r ≡ given ++ (stays ++ []) = e ∙ (asked_words ∙ ap (λ l. given ++ l) (sym (append-nil stays))) in
          rw (
            eq-eqb o.next 0 b,
            h,
            second_place [] [] whole a,
            second_word [] [] whole a,
            third_place [] [] whole a,
            kept_from [] [] whole a,
            three_bits,
            three_to_lem fresh 0 near (omega arith),
          )
          (record {
            becomes =
                keeps r served 3 (0 + length given) o.upto o.end store given stays []
                (executor_head g w ∷ (client * 8192) ∷ serial ∷ []) refl mine served_words
                (three_laid fresh 0 near (omega arith) (executor_head g w) (client * 8192) serial) (omega arith) refl (omega arith) (omega arith)
                (omega arith);
            takes = refl;
            shallow = omega (arith, served_depth);
          })
      serve_rewrites known h (branch_stands {q = q} before behind e fq dm dq a b c f) =
          let three_bits : client % 8 ≡ client = omega arith in
          let more = words q ++ behind in
          let long : length (words asked) ≡ length given + length stays = ap length asked_words ∙ length-append given stays in
          let mine : run_words r ≡ (before ++ given) ++ ((stays ++ words q) ++ behind) =
          e
          ∙ (ap (λ l. before ++ (l ++ (words q ++ behind))) asked_words
          ∙ (ap (λ l. before ++ l) (append_assoc given stays (words q ++ behind))
          ∙ (ap (λ l. before ++ (given ++ l)) (sym (append_assoc stays (words q) behind))
          ∙ sym (append_assoc before given ((stays ++ words q) ++ behind))))) in
          let made : run_words (seq served q) ≡ (4096 ∷ executor_head g w ∷ (client * 8192) ∷ serial ∷ []) ++ (stays ++ words q) =
          words_seq served q
          ∙ (ap (λ l. 4096 ∷ (l ++ words q)) served_words
          ∙ ap (λ l. 4096 ∷ l) (append_assoc (executor_head g w ∷ (client * 8192) ∷ serial ∷ []) stays (words q))) in
          let same : length (set fresh 0 4096) ≡ length fresh = length-set fresh 0 4096 in
          let still_near : Near (length (set fresh 0 4096)) = rw same near in
          let front : length (before ++ given) ≡ length before + length given = length-append before given in
          let kept : length (stays ++ words q) ≡ length stays + length (words q) = length-append stays (words q) in
          rw (
            ne_eqb o.next 0 (λ z. omega arith),
            h,
            second_place before more e a,
            second_word before more e a,
            third_place before more e a,
            kept_from before more e a,
            first_place,
            three_bits,
            three_to_lem fresh 1 near (omega arith),
          )
          (record {
            becomes =
                keeps r (seq served q) 4 (length before + length given) o.upto o.end store (before ++ given) (stays ++ words q) behind
                (4096 ∷ executor_head g w ∷ (client * 8192) ∷ serial ∷ []) refl mine made
                (laid_then (laid_put fresh 0 4096 (omega arith))
                (three_laid (set fresh 0 4096) 1 still_near (omega arith) (executor_head g w) (client * 8192) serial))
                (omega arith) refl (sym front) (omega arith) f;
            takes = refl;
            shallow = omega (arith, served_depth, depth_seq served q);
          })
