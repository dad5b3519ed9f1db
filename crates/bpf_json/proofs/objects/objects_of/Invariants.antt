use Rattle.std.proofs.Common.{length, string_bytes}
use denote.Shadow.{shadow}
use denote.Text.{Utf8}
use Rattle.bpf_json.proofs.Telling.{Told}
use Rattle.bpf_json.proofs.objects.objects_of.Given as goal

abbrev pub invariant-lines : goal.invariant-lines
invariant-lines l = shadow (Utf8 l.rest) × Told l.known l.text l.rest (string_bytes l.objects)

abbrev pub decreases-lines : goal.decreases-lines
decreases-lines l = length l.rest
