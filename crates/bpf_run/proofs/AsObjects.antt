-- What was printed is there as objects.
use Rattle.std.proofs.Common.{◌≡◌, ℕ, Bool, true, false, List, [], Option, Some}
use Rattle.bpf_json.specs.declared.known.Known.{Known}
use Rattle.bpf_replies.specs.declared.reply.Status.{Status}
use Rattle.bpf_run.specs.Objects.{AreWritten, IsShown}

pub as_objects : (printing : (old new : Option (List ℕ)) → (failed : Bool) → Status → Type 0) (json : Bool)
    (old new printed : Option (List ℕ)) (failed cut : Bool)
    (meant answered : Status) (k : Known) → json ≡ true → printing (Some []) printed cut meant → AreWritten k printed cut meant old new failed answered
    → IsShown json printing old new failed answered
as_objects printing true old new printed failed cut meant answered k is shown written = (printed, cut, meant, shown, k, written)
as_objects printing false old new printed failed cut meant answered k is shown written = let no : false ≡ true = is in absurd cc
