use Rattle.std.proofs.Common.{◌≡◌, ◌++◌, length, string_bytes}
use Rattle.bpf_check.specs.Listing.{plan_text}
use Rattle.bpf_check.specs.Single.{judged_tests}
use Rattle.bpf_check.proofs.single.list_judged.Given as goal

abbrev pub invariant-loop-place : goal.invariant-loop-place
invariant-loop-place l = string_bytes l.text ≡ plan_text (length l.expectations) ++ judged_tests l.printed l.place l.expectations
