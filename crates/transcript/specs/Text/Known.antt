-- The program's lines and texts on small cases, by computing, in the bytes of their characters. What a served cycle grants is not computed
-- here, since the round-robin rule is shut; the test program runs whole examples.
-- Assumes nothing.
use Rattle.std.specs.Prelude.{ℕ, ◌≤◌, ◌<◌, ◌≡◌, refl, List, [], ◌∷◌, ◌++◌, length, None, Some}
use Rattle.text.specs.Characters.{digits, decimal}
use Rattle.engines.specs.declared.Engine.TheVariants.{Scan, Tree, Thermometer}
use Rattle.transcript.specs.declared.first_line.Kind.TheVariants.{RoundRobin, TokenBus}
use Rattle.transcript.specs.Lines.{place, split, unended, lines}
use Rattle.transcript.specs.FirstLine.{well_formed, read_number, first_line}
use Rattle.transcript.specs.Cycles.{cycle, refusal_line, granted, printed, run}
use Rattle.transcript.specs.Text.{heading, read_size, after_first_line, after_heading, text}
use Rattle.transcript.specs.Text.Laws.{text_refused, text_follows}

pub record KnownText : Type 0 where
  -- a final line feed ends the last line, and a line feed after it makes an empty one
  pub some_lines : (lines (97 ∷ 98 ∷ []) ≡ (97 ∷ 98 ∷ []) ∷ []) × (lines (97 ∷ 98 ∷ 10 ∷ []) ≡ (97 ∷ 98 ∷ []) ∷ []) × (lines (97 ∷ 98 ∷ 10 ∷ 10 ∷ []) ≡ (97 ∷ 98 ∷ []) ∷ [] ∷ [])
  -- the four letters; 0 and 9999 are numbers
  pub first_lines : (first_line (83 ∷ 32 ∷ 48 ∷ 32 ∷ 57 ∷ 57 ∷ 57 ∷ 57 ∷ []) ≡ Some (record { kind = (RoundRobin Scan); width = 0; picks = 9999 }))
      × (first_line (84 ∷ 32 ∷ 56 ∷ 32 ∷ 49 ∷ []) ≡ Some (record { kind = (RoundRobin Tree); width = 8; picks = 1 }))
      × (first_line (80 ∷ 32 ∷ 52 ∷ 32 ∷ 50 ∷ []) ≡ Some (record { kind = (RoundRobin Thermometer); width = 4; picks = 2 }))
      × (first_line (66 ∷ 32 ∷ 49 ∷ 48 ∷ 50 ∷ 52 ∷ 32 ∷ 49 ∷ []) ≡ Some (record { kind = TokenBus; width = 1024; picks = 1 }))
  -- a leading zero, also of four digits, a fifth digit, no number, a letter that is none, two spaces, a space or a carriage return at the end
  pub unreadable : (first_line (83 ∷ 32 ∷ 48 ∷ 52 ∷ 32 ∷ 49 ∷ []) ≡ None)
      × (first_line (83 ∷ 32 ∷ 48 ∷ 48 ∷ 48 ∷ 52 ∷ 32 ∷ 49 ∷ []) ≡ None)
      × (first_line (83 ∷ 32 ∷ 49 ∷ 48 ∷ 48 ∷ 48 ∷ 48 ∷ 32 ∷ 49 ∷ []) ≡ None)
      × (first_line (83 ∷ 32 ∷ 52 ∷ 32 ∷ []) ≡ None)
      × (first_line (65 ∷ 32 ∷ 52 ∷ 32 ∷ 49 ∷ []) ≡ None)
      × (first_line (83 ∷ 32 ∷ 32 ∷ 52 ∷ 32 ∷ 49 ∷ []) ≡ None)
      × (first_line (83 ∷ 32 ∷ 52 ∷ 32 ∷ 49 ∷ 32 ∷ []) ≡ None)
      × (first_line (83 ∷ 32 ∷ 52 ∷ 32 ∷ 49 ∷ 13 ∷ []) ≡ None)
  -- the lines of the output
  pub output : (refusal_line 5 8 2 ≡ (53 ∷ 32 ∷ 114 ∷ 101 ∷ 102 ∷ 117 ∷ 115 ∷ 101 ∷ 100 ∷ 32 ∷ 56 ∷ 32 ∷ 50 ∷ 10 ∷ [])) × (granted 10 (1 ∷ 0 ∷ []) 1023 ≡ (49 ∷ 48 ∷ 32 ∷ 49 ∷ 48 ∷ 32 ∷ 49 ∷ 48 ∷ 50 ∷ 51 ∷ 10 ∷ []))
  -- whole texts: no input, a line feed alone, and openings that are refused by 1, 2 and 3
  pub refused : (text [] ≡ heading ++ (48 ∷ 32 ∷ 114 ∷ 101 ∷ 102 ∷ 117 ∷ 115 ∷ 101 ∷ 100 ∷ 32 ∷ 49 ∷ 49 ∷ 32 ∷ 48 ∷ 10 ∷ []))
      × (text (10 ∷ []) ≡ heading ++ (48 ∷ 32 ∷ 114 ∷ 101 ∷ 102 ∷ 117 ∷ 115 ∷ 101 ∷ 100 ∷ 32 ∷ 49 ∷ 49 ∷ 32 ∷ 48 ∷ 10 ∷ []))
      × (text (83 ∷ 32 ∷ 49 ∷ 48 ∷ 50 ∷ 53 ∷ 32 ∷ 49 ∷ []) ≡ heading ++ (48 ∷ 32 ∷ 114 ∷ 101 ∷ 102 ∷ 117 ∷ 115 ∷ 101 ∷ 100 ∷ 32 ∷ 49 ∷ 32 ∷ 48 ∷ 10 ∷ []))
      × (text (84 ∷ 32 ∷ 54 ∷ 32 ∷ 49 ∷ []) ≡ heading ++ (48 ∷ 32 ∷ 114 ∷ 101 ∷ 102 ∷ 117 ∷ 115 ∷ 101 ∷ 100 ∷ 32 ∷ 50 ∷ 32 ∷ 48 ∷ 10 ∷ []))
      × (text (83 ∷ 32 ∷ 52 ∷ 32 ∷ 49 ∷ 48 ∷ 48 ∷ 48 ∷ []) ≡ heading ++ (48 ∷ 32 ∷ 114 ∷ 101 ∷ 102 ∷ 117 ∷ 115 ∷ 101 ∷ 100 ∷ 32 ∷ 51 ∷ 32 ∷ 48 ∷ 10 ∷ []))
  -- a first line alone, and cycle lines of the wrong length
  pub lengths : (text (83 ∷ 32 ∷ 52 ∷ 32 ∷ 49 ∷ 10 ∷ []) ≡ heading ++ [])
      × (text (83 ∷ 32 ∷ 52 ∷ 32 ∷ 49 ∷ 10 ∷ 49 ∷ 49 ∷ 49 ∷ 10 ∷ 10 ∷ 49 ∷ 49 ∷ 49 ∷ 49 ∷ 49 ∷ []) ≡ heading ++ (49 ∷ 32 ∷ 114 ∷ 101 ∷ 102 ∷ 117 ∷ 115 ∷ 101 ∷ 100 ∷ 32 ∷ 53 ∷ 32 ∷ 48 ∷ 10 ∷ 50 ∷ 32 ∷ 114 ∷ 101 ∷ 102 ∷ 117 ∷ 115 ∷ 101 ∷ 100 ∷ 32 ∷ 53 ∷ 32 ∷ 48 ∷ 10 ∷ 51 ∷ 32 ∷ 114 ∷ 101 ∷ 102 ∷ 117 ∷ 115 ∷ 101 ∷ 100 ∷ 32 ∷ 53 ∷ 32 ∷ 48 ∷ 10 ∷ []))
      × (text (66 ∷ 32 ∷ 49 ∷ 32 ∷ 49 ∷ 10 ∷ 49 ∷ []) ≡ heading ++ (49 ∷ 32 ∷ 114 ∷ 101 ∷ 102 ∷ 117 ∷ 115 ∷ 101 ∷ 100 ∷ 32 ∷ 53 ∷ 32 ∷ 48 ∷ 10 ∷ []))

pub known : KnownText
unfolding after_first_line cycle decimal digits first_line granted place printed read_number refusal_line run split text unended well_formed
known =
    record {
      some_lines = (refl, refl, refl);
      first_lines = (refl, refl, refl, refl);
      unreadable = (refl, refl, refl, refl, refl, refl, refl, refl);
      output = (refl, refl);
      refused = (refl, refl, refl, refl, refl);
      lengths = (refl, refl, refl);
    }

-- whatever the bytes: 65,536 of them are answered, one more is refused by 12, and so many are read
abbrev pub KnownLengths : Type 0
KnownLengths =
    (input : List ℕ)
    → (length input ≤ 65536 → text input ≡ heading ++ after_heading (lines input))
    × (65536 < length input → text input ≡ heading ++ refusal_line 0 12 0)
    × (read_size ≡ 65537)

pub known_longest : KnownLengths
known_longest input = (text_follows input, text_refused input, refl)
