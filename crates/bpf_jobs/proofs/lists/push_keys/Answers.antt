use Rattle.std.proofs.Common.{◌≡◌, Some, arith}
use Rattle.std.specs.Prelude.{slice_get, string_bytes}
use Rattle.std.proofs.lemmas.Option.{slice_get_within}
use Rattle.bpf_jobs.proofs.ListLines.{one_word_more}
use Rattle.bpf_jobs.proofs.lists.push_keys.Goals as goal

pub loop-place-preserved : goal.loop-place-preserved
loop-place-preserved c =
    let keys = c.args.list.now.keys in
    let at : slice_get keys c.loop-place.place ≡ Some c.in-Some.key.now = c.in-Some.ensures.some in
    record {
      text = one_word_more keys c.loop-place.place c.in-Some.key.now (string_bytes c.args.text.now) (string_bytes c.loop-place.text)
          (string_bytes c.push_word.new.text) at c.loop-place.invariant.text c.in_ok-push_word.ensures;
      within = omega (arith, slice_get_within keys c.loop-place.place c.in-Some.key.now at);
    }
