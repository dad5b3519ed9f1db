-- How a run file's comments ask that it be checked. Our own choice.
use Rattle.std.specs.Prelude.{ℕ, Bool, true, false, ◌&&◌, ◌||◌, List, [], ◌∷◌, Option, Some, None, codes, if◌then◌else◌, is_none, nat_le}
use Rattle.std.specs.Prelude.{option_and_then, option_map}
use Rattle.std.specs.Str.{bytes_eq}
use Rattle.bpf_lines.specs.Lines.{lines_of}
use Rattle.bpf_check.specs.Comments.{is_near, words_of}
use Rattle.bpf_check.specs.Subjects.{number_in}
use Rattle.bpf_check.specs.declared.settings.Settings.{Settings}
use Rattle.bpf_check.specs.declared.settings.TheConstants.{MOST_STATES}

-- `patient`, which asks for outcomes in which no budget is used up
abbrev pub is_patience : List ℕ → Bool
is_patience word = bytes_eq word (codes "patient")

-- a number of states, at most 1,000,000,000
abbrev pub limit_in : List ℕ → Option ℕ
limit_in word = option_and_then (λ n. if nat_le n MOST_STATES then Some n else None) (number_in word)

abbrev pub limited : (patient : Bool) → ℕ → Settings
limited patient n = record { patient = patient; limit = Some n }

-- `limit N`, which asks to end a search once more states than N are kept
abbrev pub limit_by : (patient : Bool) → (name number : List ℕ) → Option Settings
limit_by patient name number =
    if bytes_eq name (codes "limit") then option_map (limited patient) (limit_in number) else None

-- with what is after one of both: nothing, or the other
abbrev pub after_patience : List (List ℕ) → Option Settings
after_patience [] = Some (record { patient = true; limit = None })
after_patience (name ∷ []) = None
after_patience (name ∷ number ∷ []) = limit_by true name number
after_patience (name ∷ number ∷ word ∷ more) = None

abbrev pub after_limit : (name : List ℕ) → List (List ℕ) → Option Settings
after_limit name [] = None
after_limit name (number ∷ []) = limit_by false name number
after_limit name (number ∷ word ∷ []) =
    if is_patience word then limit_by true name number else None
after_limit name (number ∷ word ∷ next ∷ more) = None

-- one of both, or both in either order
abbrev pub asked_by : List (List ℕ) → Option Settings
asked_by [] = None
asked_by (word ∷ more) = if is_patience word then after_patience more else after_limit word more

-- WHAT THE WORDS OF A COMMENT ASK FOR: `check`, and then that
abbrev pub setting_in : List (List ℕ) → Option Settings
setting_in [] = None
setting_in (word ∷ asked) = if bytes_eq word (codes "check") then asked_by asked else None

-- words that one edit at most makes of these
abbrev pub seems_setting : List (List ℕ) → Bool
seems_setting [] = false
seems_setting (word ∷ []) = false
seems_setting (word ∷ second ∷ more) = is_near word (codes "check")
    && (is_near second (codes "patient") || is_near second (codes "limit"))

-- which are meant to ask for something, and don't
abbrev pub is_misset : List (List ℕ) → Bool
is_misset words = seems_setting words && is_none (setting_in words)

-- ---- a file

abbrev pub or_limit : Option ℕ → Option ℕ → Option ℕ
or_limit (Some n) more = Some n
or_limit None more = more

-- patience where either asks for it, and the first limit
abbrev pub with_setting : Settings → Option Settings → Settings
with_setting s None = s
with_setting s (Some more) = record {
  patient = s.patient || more.patient;
  limit = or_limit s.limit more.limit;
}

abbrev pub after_lines : Settings → List (List ℕ) → Settings
after_lines s [] = s
after_lines s (line ∷ lines) = after_lines (with_setting s (setting_in (words_of line))) lines

-- WHAT A RUN FILE ASKS FOR: what each of its comments asks for, in the order of its lines
abbrev pub settings_of : List ℕ → Settings
settings_of text = after_lines (record { patient = false; limit = None }) (lines_of text)
