-- Two processes found in a configuration's words: where they stand, and what an exchange makes of them.
-- Assumes nothing.
use Prim.Native.Nat.{ℕ, zero, suc, ◌+◌, ◌-◌, ◌≤◌, ◌<◌}
use native.Mathlib.Omega.{arith}
use mathlib.Core.Path.{◌≡◌, sym, ap, ◌∙◌}
use mathlib.Core.Bool.{Bool}
use mathlib.Core.List.{List, [], ◌∷◌, ◌++◌}
use lib.Dec.{lit<}
use lib.ListN.{length, get_or, drop, length-append, length-drop}
use lib.Seq.{take_all}
use Rattle.sock.specs.Term.{Node, Entries, kind}
use Rattle.sock.specs.Running.{Mark, Run, seq, par, scope, executor, as_node, run_words, size, run_depth}
use Rattle.sock.specs.Configuration.{Engine, Config, engines_depth}
use Rattle.sock.specs.Frames.{Frame, seq_frame, left_frame, right_frame, scope_frame, executor_frame, Located}
use Rattle.sock.specs.Rules.{Message, sends, move_of, exchange}
use Rattle.sock.specs.Calls.{engine_at}
use Rattle.sock.proofs.Fits.{Sound, seq_sound, par_sound, scope_sound, executor_sound, SoundFrame, seq_frame_sound, left_frame_sound, right_frame_sound, scope_frame_sound, executor_frame_sound, SoundFrames, no_frames, one_frame}
use Rattle.sock.proofs.Located.{wrap, engine_fits, start_of, words_after, size_positive}
use Rattle.reading.specs.Survey.{Starts}
use Rattle.reading.proofs.Combining.{Words}
use Rattle.reading.proofs.Known.{Known, known_length}
use Rattle.finding.specs.declared.find.Site.{Site}
use Rattle.finding.specs.Find.{fault_at}
use Rattle.finding.proofs.Spots.{Spotted}
use Rattle.finding.proofs.Edits.{process_at}
use Rattle.writers.proofs.Laid.{Near, near_of, near_below}
use Rattle.rules.proofs.Depths.{wrap_depth, Shallow, shallow}
use Rattle.scopes.proofs.ScopeWords.{inner_sound}
use Rattle.layout.specs.declared.limit.Limits.{Limits}
use Rattle.layout.specs.Limits.{figures}
use Rattle.stepping.proofs.Modest.{Modest}
use Rattle.stepping.specs.Exchanging.{blank, lent}
use Rattle.stepping.proofs.Results.{one_stands, one_values}
use Rattle.stepping.proofs.Pairs.{Pairs, sender_pairs}
use Rattle.stepping.proofs.Fresh.{blank_length, blank_near}

engine_depth : (es : List Engine) (e : ℕ) (d : Engine) → e < length es → run_depth (get_or es e d).process ≤ engines_depth es
unfolding engines_depth
engine_depth [] e d h = absurd (omega arith)
engine_depth (g ∷ gs) zero d h = omega arith
engine_depth (g ∷ gs) (suc e) d h = omega (arith, engine_depth gs e d (omega arith))

-- frames are sound if what they stand around is, with them
seq_frame_lem : {n issued : ℕ} {a : Run} {q : Node} → Sound n issued (seq a q) → SoundFrame n issued (seq_frame q)
seq_frame_lem (seq_sound x t f) = seq_frame_sound f

left_frame_lem : {n issued : ℕ} {a b : Run} → Sound n issued (par a b) → SoundFrame n issued (left_frame b)
left_frame_lem (par_sound x t y u) = left_frame_sound y u

right_frame_lem : {n issued : ℕ} {a b : Run} → Sound n issued (par b a) → SoundFrame n issued (right_frame b)
right_frame_lem (par_sound x t y u) = right_frame_sound x t

scope_frame_lem : {n issued name : ℕ} {mark : Mark} {zombie : Bool} {h : Entries} {a : Run} → Sound n issued (scope name mark zombie h a) →
    SoundFrame n issued (scope_frame name mark zombie h)
scope_frame_lem (scope_sound x y z g) = scope_frame_sound x y z

executor_frame_lem : {n issued o client serial : ℕ} {y : List ℕ} {a : Run} → Sound n issued (executor o y client serial a) →
    SoundFrame n issued (executor_frame o y client serial)
executor_frame_lem (executor_sound x y z g) = executor_frame_sound x y z

pub outer_sound : {n issued : ℕ} (fs : List Frame) (a : Run) → Sound n issued (wrap fs a) → SoundFrames n issued fs
unfolding wrap
outer_sound [] a g = no_frames
outer_sound (seq_frame q ∷ fs) a g = one_frame (seq_frame_lem (inner_sound fs (seq a q) g)) (outer_sound fs (seq a q) g)
outer_sound (left_frame b ∷ fs) a g = one_frame (left_frame_lem (inner_sound fs (par a b) g)) (outer_sound fs (par a b) g)
outer_sound (right_frame b ∷ fs) a g = one_frame (right_frame_lem (inner_sound fs (par b a) g)) (outer_sound fs (par b a) g)
outer_sound (scope_frame name mark zombie h ∷ fs) a g =
    one_frame (scope_frame_lem (inner_sound fs (scope name mark zombie h a) g)) (outer_sound fs (scope name mark zombie h a) g)
outer_sound (executor_frame o y client serial ∷ fs) a g =
    one_frame (executor_frame_lem (inner_sound fs (executor o y client serial a) g)) (outer_sound fs (executor o y client serial a) g)

module _ (ws : List ℕ) (ok : Words ws) (s : Starts) {limits : Limits} (modest : Modest limits) (known : Known (figures limits) ws s) where
  abbrev c : Config
  c = known.config

  pub near : Near (length ws)
  near = near_below (length ws) 8192 (near_of 8192 (lit< tt)) (omega (arith, (known_length known).1, modest.few))

  -- the words from a place on
  pub lent_on : (k : ℕ) → lent k (length ws) ws ≡ drop k ws
  lent_on k = take_all (length ws - k) (drop k ws) (omega (arith, length-drop k ws))

  pub lent_near : (k : ℕ) → Near (length (lent k (length ws) ws))
  lent_near k = near_below _ (length ws) near (omega (arith, ap length (lent_on k), length-drop k ws))

  -- one process found
  module _ (e : ℕ) (h : e < length c.engines) (target : ℕ) (l : Located) (sp : Site)
      (spotted : Spotted (fault_at ws target) target (engine_at c e).process (start_of c e) 1 l sp) where
    abbrev r : Run
    r = (engine_at c e).process

    wrapped_sound : Sound (length c.engines) c.issued (wrap l.frames l.process)
    wrapped_sound = rw spotted.wraps (engine_fits _ known.readable.fitting.engines e h).sound

    pub found_sound : Sound (length c.engines) c.issued l.process
    found_sound = inner_sound l.frames l.process wrapped_sound

    pub found_frames : SoundFrames (length c.engines) c.issued l.frames
    found_frames = outer_sound l.frames l.process wrapped_sound

    pub engine_shallow : Shallow limits.deepest r
    engine_shallow =
        let a : run_depth r ≤ engines_depth c.engines = engine_depth c.engines e _ h in
        record { low = modest.low; kept = omega (arith, known.readable.shallow) }

    pub found_shallow : run_depth l.process ≤ 64
    found_shallow = omega (arith, shallow engine_shallow, sym (wrap_depth l.frames l.process) ∙ ap run_depth spotted.wraps)

    -- with the frames around it
    pub found_deep : length l.frames + run_depth l.process ≤ limits.deepest
    found_deep = omega (arith, engine_shallow.kept, sym (wrap_depth l.frames l.process) ∙ ap run_depth spotted.wraps)

    abbrev pub behind : List ℕ
    behind =
        (process_at (fault_at ws target) target r (start_of c e) 1 l sp ws (words_after c e)
        (one_stands c known.readable.fitting e h ws known.same) spotted).0

    pub found_at : lent sp.at (length ws) ws ≡ run_words l.process ++ behind
    found_at =
        lent_on sp.at
        ∙ (ap (λ k. drop k ws) spotted.at
        ∙ (process_at (fault_at ws target) target r (start_of c e) 1 l sp ws (words_after c e)
        (one_stands c known.readable.fitting e h ws known.same) spotted).1)

    -- it begins within the words
    pub found_inside : sp.at ≤ length ws
    unfolding size
    found_inside =
        let a = ap length (lent_on sp.at) in
        let b = ap length found_at in
        omega (arith, length-drop sp.at ws, length-append (run_words l.process) behind, size_positive l.process)

  -- the two of them, with a message from the one in the engine e for the one in the engine i
  module _ (e : ℕ) (he : e < length c.engines) (targetA : ℕ) (la : Located) (sa : Site)
      (spottedA : Spotted (fault_at ws targetA) targetA (engine_at c e).process (start_of c e) 1 la sa)
      (i : ℕ) (hi : i < length c.engines) (target_b : ℕ) (lb : Located) (sb : Site)
      (spottedB : Spotted (fault_at ws target_b) target_b (engine_at c i).process (start_of c i) 1 lb sb)
      (branch : ℕ) where
    pub partners_trade :
        (m : Message) → move_of (engine_at c e).values la.frames la.process ≡ sends m →
        Pairs c.issued e i branch la.process lb.process (engine_at c i).values
        (lent sa.at (length ws) ws) (lent (start_of c e - 64) (start_of c e) ws) (lent sb.at (length ws) ws)
        (kind (as_node la.process)) blank
        (exchange (record { issued = c.issued; sender = e; receiver = i; values = (engine_at c i).values; process = lb.process; branch = branch }) m)
    partners_trade m moves =
        sender_pairs (length c.engines) c.issued known.readable.fitting.few known.readable.fitting.word e i branch
        (omega (arith, known.readable.fitting.few)) (omega (arith, known.readable.fitting.few)) blank
        blank_near (omega (arith, blank_length))
        (lent sa.at (length ws) ws) (lent_near sa.at) (lent (start_of c e - 64) (start_of c e) ws) (engine_at c e).values
        (engine_fits _ known.readable.fitting.engines e he).bounded (one_values c known.readable.fitting e he ws known.same)
        (lent sb.at (length ws) ws) (lent_near sb.at)
        lb.process (found_sound i hi target_b lb sb spottedB) (found_shallow i hi target_b lb sb spottedB)
        (behind i hi target_b lb sb spottedB)
        (found_at i hi target_b lb sb spottedB) (engine_at c i).values
        la.frames (behind e he targetA la sa spottedA)
        (found_sound e he targetA la sa spottedA) (found_shallow e he targetA la sa spottedA) (found_at e he targetA la sa spottedA) m moves
