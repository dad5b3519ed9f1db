use Rattle.std.proofs.Common.{◌≡◌, map}
use Rattle.std.specs.Prelude.{string_bytes}
use Rattle.bpf_machine.specs.Listings.{listing_at, made_keys}
use Rattle.bpf_jobs.specs.Printed.{list_lines}
use Rattle.bpf_jobs.proofs.lists.list_keys.Given as goal

abbrev pub invariant-loop-cpu : goal.invariant-loop-cpu
invariant-loop-cpu l = string_bytes l.text ≡ list_lines (λ c. made_keys (listing_at l.machine.lists c)) (map string_bytes l.names) l.cpu
