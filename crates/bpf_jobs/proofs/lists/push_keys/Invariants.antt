use Rattle.std.proofs.Common.{◌≡◌, ◌≤◌, ◌++◌, length}
use Rattle.std.specs.Prelude.{string_bytes}
use Rattle.bpf_jobs.specs.Printed.{key_words}
use Rattle.bpf_jobs.proofs.lists.push_keys.Given as goal

abbrev pub invariant-loop-place : goal.invariant-loop-place
invariant-loop-place l = record {
  text : string_bytes l.text ≡ string_bytes l.fn.text ++ key_words l.place l.list.keys;
  within : l.place ≤ length l.list.keys;
}
