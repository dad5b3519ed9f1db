use Rattle.std.proofs.Common.{◌≡◌, take}
use Rattle.bpf_shared.specs.Contents.{bytes_of_all}
use Rattle.bpf_plain.proofs.copying.copy_contents.Given as goal

-- the first of them are copied
abbrev pub invariant-loop-bytes : goal.invariant-loop-bytes
invariant-loop-bytes l = bytes_of_all l.copy.items ≡ take l.bytes-index (bytes_of_all l.contents)
