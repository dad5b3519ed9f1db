use Rattle.std.proofs.Common.{◌∙◌, ℕ, List, subst}
use Rattle.std.specs.Prelude.{IfSome}
use Rattle.bpf_replies.specs.Several.{IsPart, counted, no_part, seen}
use Rattle.bpf_replies.proofs.SeveralFiles.{one_more}
use Rattle.bpf_replies.proofs.several.tell_all.Goals as goal

pub loop-name-preserved : goal.loop-name-preserved
loop-name-preserved g c =
    let o = c.args.options.now in
    let old = c.loop-name.tally in
    let part = seen c.in_ok-part.part in
    let Q : List ℕ → Type 0 = λ name. IfSome (g.R.Source.file c.loop-name.source name) (λ bytes. IsPart g.D.Racer.finds o name old.tests bytes part) in
    record {
      follows = one_more g.D.Racer.finds o (g.R.Source.file c.args.source.now) (g.R.Source.file c.loop-name.source) c.args.names.now
          c.loop-name.name-index c.name-item.result
          no_part (counted old) (counted c.add.new.self) part c.loop-name-test.true c.name-item.is c.loop-name.invariant.same
          (subst Q c.as_str.ensures.value c.in_ok-part.ensures.part) c.in_ok-add.ensures c.loop-name.invariant.follows;
      same = c.part_of.ensures.files ∙ c.loop-name.invariant.same;
    }
