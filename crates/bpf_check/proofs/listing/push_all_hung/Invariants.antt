use Rattle.std.proofs.Common.{◌≡◌, ◌++◌, string_bytes}
use Rattle.bpf_check.specs.Listing.{hung_lines}
use Rattle.bpf_check.proofs.listing.push_all_hung.Given as goal

abbrev pub invariant-loop-found : goal.invariant-loop-found
invariant-loop-found l = string_bytes l.text ≡ string_bytes l.fn.text ++ hung_lines l.found-index l.hung
