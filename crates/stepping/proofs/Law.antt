-- The whole step on words is the definitions' step, for all words and numbers.
-- Assumes nothing.
use Prim.Native.Nat.{ℕ, ◌+◌, ◌/◌, ◌<◌}
use native.Mathlib.Omega.{arith}
use native.Mathlib.Decide.{ℕ_discrete}
use mathlib.Core.Path.{◌≡◌, refl, sym, ap, ◌∙◌}
use mathlib.Core.Bool.{Bool, true, false, cond}
use mathlib.Core.Option.{Option, none}
use mathlib.Core.List.{List}
use Rattle.std.specs.Prelude.{None}
use borrow.Author.Tests.{eq-eqb, ne_eqb, leb-true, leb-false}
use lib.Dec.{leb, eqb}
use lib.ListN.{length, get_or}
use Rattle.sock.specs.Words.{kind_of}
use Rattle.sock.specs.Term.{kind}
use Rattle.sock.specs.Running.{as_node, run_words}
use Rattle.sock.specs.Configuration.{Config}
use Rattle.sock.specs.Frames.{Located}
use Rattle.sock.specs.Rules.{Message, Move, sends, move_of}
use Rattle.sock.specs.Calls.{Spot as Place, unreadable, nobody_there, no_move, no_partner, not_decimal, refused, ◌>>=◌, ◌!◌, Numbers as Asked, engine_at, enabled_at, step, step_answer, step_output}
use Rattle.sock.proofs.Located.{start_of}
use Rattle.reading.specs.Survey.{Starts, surveyed}
use Rattle.reading.proofs.Combining.{Words}
use Rattle.reading.proofs.Known.{Known, survey_known, survey_unknown, known_issued}
use Rattle.skipping.proofs.Notes.{Right}
use Rattle.layout.specs.Positions.{onward}
use Rattle.finding.specs.declared.find.Site.{Site}
use Rattle.finding.specs.declared.find.Found.{Found}
use Rattle.finding.specs.Find.{find_w}
use Rattle.rules.specs.Rewriting.{at}
use Rattle.rules.proofs.Rewrites.{head_on}
use Rattle.layout.specs.declared.limit.Limits.{Limits}
use Rattle.layout.specs.Limits.{figures}
use Rattle.stepping.proofs.Modest.{Modest}
use Rattle.stepping.specs.Answering.{Answered, answered, refusing}
use Rattle.stepping.specs.declared.bundles.Numbers.{Numbers}
use Rattle.stepping.specs.Bundles.{Engines, numbers_as, bound_of, side_of}
use Rattle.stepping.specs.Alone.{alone_w}
use Rattle.layout.specs.Kinds.{counted_as}
use Rattle.layout.proofs.Named.{counted_is}
use Rattle.stepping.specs.Stepping.{moves_w, partner_w, receiving_w, none_else, moving_w, moved_w, step_w}
use Rattle.stepping.specs.Enabled.{hit_w, site_w, with_site, enabled_w}
use Rattle.stepping.proofs.Goal.{given, given_refused}
use Rattle.stepping.proofs.Whole.{after, step_read, lone_of, pair_of, after_stuck, after_alone, after_unvalued, after_sends}
use Rattle.stepping.proofs.Seeking.{Seen, placed, Seeks, unseen, seen, seeks, seeks_none}
use Rattle.stepping.proofs.Movers.{Moving, stays, goes, lacks, asks, known_moving, known_kind}
use Rattle.stepping.proofs.LoneLaw.{unvalued_law, lone_law}
use Rattle.stepping.proofs.PairLaw.{pair_law}
use Rattle.stepping.proofs.Partners as partners

-- no engine, nothing read
refused_at :
    (limits : Limits) (ws notes : List ℕ) (k : Numbers) (out : List ℕ) (s : Starts) → s ≡ surveyed (figures limits) 11 ws → s.engines ≡ 0 →
    step_w limits ws notes k out ≡ answered (refusing 1) out
unfolding step_w enabled_w moved_w
refused_at limits ws notes k out s q z = rw (← q, eq-eqb s.engines 0 z)

-- the first engine looked up
looked_up :
    (limits : Limits) (ws notes : List ℕ) (k : Numbers) (out : List ℕ) (s : Starts) (n issued : ℕ) → s ≡ surveyed (figures limits) 11 ws →
    s.engines ≡ n → (n ≡ 0 → ⊥) → at ws 1 ≡ issued →
    step_w limits ws notes k out
    ≡ moved_w limits ws notes k out
    (with_site (record { count = n; issued = issued; starts = s.starts })
    (cond (leb n k.engine) None
    (hit_w (find_w 64 ws notes (onward (get_or s.starts k.engine 0) k.position) 1 (get_or s.starts k.engine 0)))))
unfolding step_w enabled_w site_w
looked_up limits ws notes k out s n issued q z more w = rw (← q, z, ne_eqb n 0 more, w)

module _ {limits : Limits} (modest : Modest limits) (ws : List ℕ) (ok : Words ws) (k : Numbers) (position-low : k.position < 65536) (place-low : k.second_position < 65536) (out : List ℕ) (notes : List ℕ) (right : Right ws notes) where
  abbrev asked : Asked
  asked = numbers_as k

  -- ---- a configuration that is known

  module _ (s : Starts) (known : Known (figures limits) ws s) where
    abbrev c : Config
    c = known.config

    abbrev n : ℕ
    n = length c.engines

    abbrev g : Engines
    g = record { count = n; issued = c.issued; starts = s.starts }

    -- the process found, by its kind
    module _ (target : ℕ) (l : Located) (sp : Site) (found : Seen ws ok s modest known k.engine target l sp) where
      abbrev a : Place
      a = placed ws ok s modest known k.engine l

      kind_at : at ws sp.at / 2048 ≡ kind (as_node l.process)
      unfolding run_words
      kind_at =
          ap kind_of
          (head_on ws sp.at (as_node l.process) _
          (sym (partners.lent_on ws ok s modest known sp.at) ∙ partners.found_at ws ok s modest known k.engine found.inside target l sp found.spotted))

      kind_known : kind (as_node l.process) < 19
      kind_known = known_kind ws ok s modest known k.engine found.inside target l sp found.place found.spotted notes right

      counted : counted_as (kind_of (at ws sp.at)) ≡ kind (as_node l.process)
      counted = counted_is kind_at kind_known

      receiving_law :
          (m : Message) → move_of (engine_at c k.engine).values l.frames l.process ≡ sends m →
          receiving_w limits ws notes g k sp (kind (as_node l.process)) out
          ≡ given ((no_partner ! enabled_at c k.second k.second_position) >>= λ b. pair_of limits c asked a b m (length out)) out
      unfolding receiving_w partner_w site_w hit_w ◌!◌ ◌>>=◌
      receiving_law m moves = by (leb n k.second) refl
        where
          seek :
              (f : Found) (o : Option Place) → Seeks ws ok s modest known k.second k.second_position (start_of c k.second + k.second_position) f o →
              partner_w limits ws g k sp (kind (as_node l.process)) out (hit_w f)
              ≡ given ((no_partner ! o) >>= λ b. pair_of limits c asked a b m (length out)) out
          seek _ _ unseen = sym (given_refused no_partner out)
          seek _ _ (seen {l = lb} {sp = sb} y) = pair_law ws ok s modest known k.engine target l sp found k.second _ lb sb y asked m moves out

          by :
              (b : Bool) → leb n k.second ≡ b →
              partner_w limits ws g k sp (kind (as_node l.process)) out
              (cond b None (hit_w (find_w 64 ws notes (onward (get_or s.starts k.second 0) k.second_position) 1 (get_or s.starts k.second 0))))
              ≡ given ((no_partner ! enabled_at c k.second k.second_position) >>= λ b. pair_of limits c asked a b m (length out)) out
          by true q = rw (seeks_none ws ok s modest known k.second k.second_position (leb-true n k.second q)) (sym (given_refused no_partner out))
          by false q =
              let h : k.second < n = leb-false n k.second q in
              let first : get_or s.starts k.second 0 ≡ start_of c k.second = known.starts k.second (omega arith) in
              rw first (seek _ _ (seeks ws ok s modest known k.second h k.second_position place-low notes right))

      moving_law : moving_w limits ws notes g k sp out ≡ given (after limits c asked a (length out)) out
      unfolding moving_w
      moving_law =
          rw counted
          (by (move_of (engine_at c k.engine).values l.frames l.process) (moves_w ws notes sp.at (kind (as_node l.process))) refl
          (known_moving ws ok s modest known k.engine found.inside target l sp found.place found.spotted notes right))
        where
          by :
              (m : Move) (j : ℕ) → move_of (engine_at c k.engine).values l.frames l.process ≡ m → Moving m j →
              cond (eqb j 0) (answered (refusing 3) out)
              (cond (eqb j 1)
              (cond (none_else k.second k.second_position k.branch)
              (alone_w limits ws notes (side_of g k.engine sp) (kind (as_node l.process)) (bound_of g) out)
              (answered (refusing 3) out))
              (receiving_w limits ws notes g k sp (kind (as_node l.process)) out))
              ≡ given (after limits c asked a (length out)) out
          by _ _ q stays = rw (after_stuck limits c asked a (length out) q) (sym (given_refused no_move out))
          by _ _ q (goes {vs = vs} {q = o}) = rw (after_alone limits c asked a (length out) vs o q) (go (none_else k.second k.second_position k.branch))
            where
              go :
                  (b : Bool) →
                  cond b (alone_w limits ws notes (side_of g k.engine sp) (kind (as_node l.process)) (bound_of g) out) (answered (refusing 3) out)
                  ≡ given (cond b (lone_of limits c a vs o (length out)) (refused no_move)) out
              go true = lone_law ws ok s modest known k.engine target l sp found notes right vs o q out
              go false = sym (given_refused no_move out)
          by _ _ q lacks = rw (after_unvalued limits c asked a (length out) q) (go (none_else k.second k.second_position k.branch))
            where
              go :
                  (b : Bool) →
                  cond b (alone_w limits ws notes (side_of g k.engine sp) (kind (as_node l.process)) (bound_of g) out) (answered (refusing 3) out)
                  ≡ given (cond b (refused not_decimal) (refused no_move)) out
              go true = unvalued_law ws ok s modest known k.engine target l sp found notes right q out
              go false = sym (given_refused no_move out)
          by _ _ q (asks {m = m}) = rw (after_sends limits c asked a (length out) m q) (receiving_law m q)

    -- the search in the first engine
    known_law : (k.engine < n) → moved_w limits ws notes k out
        (with_site g (hit_w (find_w 64 ws notes (onward (start_of c k.engine) k.position) 1 (start_of c k.engine))))
        ≡ given ((nobody_there ! enabled_at c k.engine k.position) >>= λ a. after limits c asked a (length out)) out
    unfolding moved_w with_site hit_w ◌!◌ ◌>>=◌
    known_law h = by _ _ (seeks ws ok s modest known k.engine h k.position position-low notes right)
      where
        by :
            (f : Found) (o : Option Place) → Seeks ws ok s modest known k.engine k.position (start_of c k.engine + k.position) f o →
            moved_w limits ws notes k out (with_site g (hit_w f))
            ≡ given ((nobody_there ! o) >>= λ a. after limits c asked a (length out)) out
        by _ _ unseen = sym (given_refused nobody_there out)
        by _ _ (seen {l = l} {sp = sp} y) = moving_law _ l sp y

    read_law :
        (s.engines ≡ 0 → ⊥) → s ≡ surveyed (figures limits) 11 ws →
        step_w limits ws notes k out
        ≡ given ((nobody_there ! enabled_at c k.engine k.position) >>= λ a. after limits c asked a (length out)) out
    unfolding moved_w with_site ◌!◌ ◌>>=◌
    read_law more q =
        looked_up limits ws notes k out s n c.issued q known.engines (λ z. more (known.engines ∙ z))
        (known_issued known)
        ∙ by (leb n k.engine) refl
      where
        by :
            (b : Bool) → leb n k.engine ≡ b →
            moved_w limits ws notes k out
            (with_site g (cond b None (hit_w (find_w 64 ws notes (onward (get_or s.starts k.engine 0) k.position) 1 (get_or s.starts k.engine 0)))))
            ≡ given ((nobody_there ! enabled_at c k.engine k.position) >>= λ a. after limits c asked a (length out)) out
        by true y = rw (seeks_none ws ok s modest known k.engine k.position (leb-true n k.engine y)) none_there
          where
            none_there : answered (refusing 2) out ≡ given ((nobody_there ! none) >>= λ a. after limits c asked a (length out)) out
            none_there = sym (given_refused nobody_there out)
        by false y =
            let h : k.engine < n = leb-false n k.engine y in
            let first : get_or s.starts k.engine 0 ≡ start_of c k.engine = known.starts k.engine (omega arith) in
            rw first (known_law h)

  -- ---- all words

  pub step_law :
      step_w limits ws notes k out ≡ given (step (figures limits) ws asked (length out)) out
  unfolding ◌!◌ ◌>>=◌
  step_law = by (surveyed (figures limits) 11 ws) refl
    where
      refuses : (s : Starts) → s ≡ surveyed (figures limits) 11 ws → s.engines ≡ 0 → step_w limits ws notes k out ≡ answered (refusing 1) out
      refuses s q z = refused_at limits ws notes k out s q z

      by :
          (s : Starts) → s ≡ surveyed (figures limits) 11 ws →
          step_w limits ws notes k out ≡ given (step (figures limits) ws asked (length out)) out
      by s q = decide (ℕ_discrete s.engines 0)
        where
          decide : Dec (s.engines ≡ 0) → step_w limits ws notes k out ≡ given (step (figures limits) ws asked (length out)) out
          decide (yes z) =
              refuses s q z
              ∙ (sym (given_refused unreadable out)
              ∙ ap (λ r. given r out) (sym (step_read limits ws asked (length out) ∙ ap (λ o. (unreadable ! o) >>= λ c. (nobody_there ! enabled_at c k.engine k.position) >>= λ a. after limits c asked a (length out)) (survey_unknown (figures limits) ws ok s q z))))
          decide (no z) =
              let known = survey_known (figures limits) ws ok s q z in
              read_law s known z q
              ∙ ap (λ r. given r out) (sym (step_read limits ws asked (length out) ∙ ap (λ o. (unreadable ! o) >>= λ c. (nobody_there ! enabled_at c k.engine k.position) >>= λ a. after limits c asked a (length out)) known.reads))

  -- the answer and the output
  pub answer_law : (step_w limits ws notes k out).answer ≡ step_answer (figures limits) ws asked out
  unfolding step_answer
  answer_law = ap (λ (x : Answered). x.answer) step_law

  pub output_law : (step_w limits ws notes k out).out ≡ step_output (figures limits) ws asked out
  unfolding step_output
  output_law = ap (λ (x : Answered). x.out) step_law
