-- What `check` replies to several files: one list of tests over all of them.
use Rattle.std.specs.Prelude.{◌≡◌, ◌⊎◌, ◌≤◌, ◌+◌, ◌++◌, ◌&&◌, ◌||◌, ℕ, Bool, true, false, List, [], ◌∷◌, Option, IfSome, IsUtf8, codes, length, string_bytes}
use Rattle.bpf_command.specs.declared.command.CheckOptions.{CheckOptions}
use Rattle.bpf_check.specs.Expectation.{Expected}
use Rattle.bpf_check.specs.Findings.{Findings, Raced}
use Rattle.bpf_check.specs.Listing.{count_of, listed_text, name_text, plan_text}
use Rattle.bpf_check.specs.Verdict.{conclusion_of, verdicts_of}
use Rattle.bpf_replies.specs.Checking.{AreGroundsBy, AreNotesOf, head_text, is_told, is_unmet, reading_by, states_of}
use Rattle.bpf_replies.specs.Input.{RefusesInput}
use Rattle.bpf_replies.specs.Diagnostic.{refusal_text}
use Rattle.bpf_replies.specs.Comments.{AreLinesIn, IsExpectedIn, RefusesComments}
use Rattle.bpf_replies.specs.declared.checking.Notes.{Notes}
use Rattle.bpf_replies.specs.declared.input.TheConstants.{MAX_INPUT}
use Rattle.bpf_replies.specs.declared.refusal.Refusal.{Refusal}
use Rattle.bpf_replies.specs.declared.refusal.Refusal.TheVariants as refusal
use Rattle.bpf_replies.specs.declared.several.FilePart.{FilePart}
use Rattle.bpf_replies.specs.declared.several.Tally.{Tally}
use Rattle.bpf_replies.specs.declared.reply.Reply.{Reply}
use Rattle.bpf_replies.specs.declared.reply.Reply.TheVariants as reply

-- what is printed of a file among several: its lines, how many tests they have, and whether it is
-- refused, something isn't as expected, and all that is expected could be decided
pub record Part : Type 0 where
  pub text : List ℕ
  pub tests : ℕ
  pub refused : Bool
  pub unmet : Bool
  pub told : Bool

-- of a file that is refused: why, and its name
abbrev pub refused_part : (name : List ℕ) → Refusal → Part
refused_part name r = record {
  text = codes "refused " ++ refusal_text r ++ codes " - " ++ name ++ codes "\n";
  tests = 0;
  refused = true;
  unmet = false;
  told = true;
}

-- of one whose outcomes a search found: comments that count states and expectations that are no tests, and
-- say of threads, and its tests, after this many of the files before it
abbrev pub checked_part : CheckOptions → (name : List ℕ) → (lines : List ℕ) → (before : ℕ) → Findings → Notes
    → List Expected → Part
checked_part o name lines before f notes expected = record {
  text = head_text (name ++ codes ": ") (states_of o f) notes
      ++ listed_text (name_text name) lines before f expected (verdicts_of f expected);
  tests = count_of f expected;
  refused = false;
  unmet = is_unmet (conclusion_of f expected);
  told = is_told (conclusion_of f expected);
}

-- the part of a text: its tests, or the first refusal of the file or its comments
abbrev pub IsTextPart : (Finds : Bool → ℕ → List ℕ → Raced → Type 0)
    → CheckOptions → (name : List ℕ) → (before : ℕ) → List ℕ → Part → Type 0
IsTextPart Finds o name before text part =
    ((r : Refusal) × RefusesComments (reading_by o text) text r
    × (part ≡ refused_part name r))
    ⊎ ((expected : List Expected) × (lines : List ℕ) × (f : Findings)
    × IsExpectedIn (reading_by o text) text expected
    × AreLinesIn (reading_by o text) o.lines text lines
    × AreGroundsBy Finds o text expected f
    × (notes : Notes) × AreNotesOf (reading_by o text) text notes
    × (part ≡ checked_part o name lines before f notes expected))

-- the part of a file of these bytes
abbrev pub IsPart : (Finds : Bool → ℕ → List ℕ → Raced → Type 0)
    → CheckOptions → (name : List ℕ) → (before : ℕ) → List ℕ → Part → Type 0
IsPart Finds o name before bytes part =
    ((r : Refusal) × RefusesInput bytes r × (part ≡ refused_part name r))
    ⊎ ((length bytes ≤ MAX_INPUT) × IsUtf8 bytes × IsTextPart Finds o name before bytes part)

-- ---- all files

-- one after others
abbrev pub with_part : Part → Part → Part
with_part all part = record {
  text = all.text ++ part.text;
  tests = all.tests + part.tests;
  refused = all.refused || part.refused;
  unmet = all.unmet || part.unmet;
  told = all.told && part.told;
}

abbrev pub no_part : Part
no_part = record { text = []; tests = 0; refused = false; unmet = false; told = true }

-- what is printed of the files of these names, where their bytes are known, after what is printed of those
-- before them
abbrev pub AreTold : (Finds : Bool → ℕ → List ℕ → Raced → Type 0)
    → CheckOptions → (files : List ℕ → Option (List ℕ)) → List (List ℕ)
    → (so_far all : Part) → Type 0
AreTold Finds o files [] so_far all = all ≡ so_far
AreTold Finds o files (name ∷ names) so_far all = (part : Part)
    × IfSome (files name) (λ bytes. IsPart Finds o name so_far.tests bytes part)
    × AreTold Finds o files names (with_part so_far part) all

-- `check` of several files: how many tests there are, and what is printed of all; or out of memory
abbrev pub AreChecked : (Finds : Bool → ℕ → List ℕ → Raced → Type 0)
    → CheckOptions → (files : List ℕ → Option (List ℕ)) → List (List ℕ) → Reply
    → Type 0
AreChecked Finds o files names (reply.Several printed refused unmet told) = (all : Part)
    × AreTold Finds o files names no_part all
    × (string_bytes printed ≡ plan_text all.tests ++ all.text)
    × (refused ≡ all.refused) × (unmet ≡ all.unmet) × (told ≡ all.told)
AreChecked Finds o files names (reply.Refused refusal.OutOfMemory) = Unit {0}
AreChecked Finds o files names _ = ⊥

-- ---- the same as the program keeps them

abbrev pub seen : FilePart → Part
seen p = record {
  text = string_bytes p.text;
  tests = p.tests;
  refused = p.refused;
  unmet = p.unmet;
  told = p.told;
}

abbrev pub counted : Tally → Part
counted t = record {
  text = string_bytes t.text;
  tests = t.tests;
  refused = t.refused;
  unmet = t.unmet;
  told = t.told;
}
