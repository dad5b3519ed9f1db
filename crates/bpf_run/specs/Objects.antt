-- What is written as JSON in place of printed lines: an object a line.
use Rattle.std.specs.Prelude.{◌≡◌, ◌⊎◌, ℕ, Bool, true, false, List, [], Option, Some, codes}
use Rattle.bpf_json.specs.Lines.{AreObjectsOf}
use Rattle.bpf_json.specs.declared.known.Known.{Known}
use Rattle.bpf_replies.specs.Answer.{IsPrinted}
use Rattle.bpf_replies.specs.declared.reply.Status.{Status}
use Rattle.bpf_replies.specs.declared.reply.Status.TheVariants as status

abbrev pub lost_object : List ℕ
lost_object = codes "{\"refused\":\"L9\"}\n"

-- the objects of what was printed are written, with the status that was meant; or a refusal alone,
-- where they found no memory
abbrev pub AreWritten : Known → (printed : Option (List ℕ)) → (cut : Bool) → (meant : Status)
    → (old new : Option (List ℕ)) → (failed : Bool) → Status → Type 0
AreWritten k printed cut meant old new failed answered =
    ((text : List ℕ) × (objects : List ℕ) × (printed ≡ Some text) × (cut ≡ false)
    × AreObjectsOf k text objects × IsPrinted objects meant old new failed answered)
    ⊎ IsPrinted lost_object status.Refused old new failed answered

-- what is printed so is there as it is, or with `--json` as objects, with what is known of the file
-- beside it: its name, and from which of its lines instructions come
abbrev pub IsShown : (json : Bool)
    → (printing : (old new : Option (List ℕ)) → (failed : Bool) → Status → Type 0)
    → (old new : Option (List ℕ)) → (failed : Bool) → Status → Type 0
IsShown false printing old new failed answered = printing old new failed answered
IsShown true printing old new failed answered =
    (printed : Option (List ℕ)) × (cut : Bool) × (meant : Status)
    × printing (Some []) printed cut meant × (k : Known)
    × AreWritten k printed cut meant old new failed answered
