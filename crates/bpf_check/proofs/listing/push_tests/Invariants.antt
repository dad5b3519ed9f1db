use Rattle.std.proofs.Common.{◌≡◌, ◌++◌, string_bytes}
use Rattle.bpf_check.specs.Listing.{tests_text}
use Rattle.bpf_check.proofs.listing.push_tests.Given as goal

abbrev pub invariant-loop-place : goal.invariant-loop-place
invariant-loop-place l = string_bytes l.text ≡ string_bytes l.fn.text ++ tests_text l.file.name.now l.file.lines.now l.before
    l.file.findings.now l.place l.expectations l.verdicts
