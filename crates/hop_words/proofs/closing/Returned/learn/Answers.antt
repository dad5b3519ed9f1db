use Rattle.std.proofs.Common.{ℕ, ◌<◌, ap, sym, subst, ◌∙◌}
use lib.ListN.{get_elem?}
use Rattle.bpf_shared.specs.Shape.{IsShape}
use Rattle.hop_layout.specs.declared.about.About.{About}
use Rattle.hop_words.specs.Inside.{Shown}
use Rattle.hop_words.specs.Dealing.{Dealing}
use Rattle.hop_words.proofs.Gathers.{learns}
use Rattle.hop_words.proofs.Dealt.{some_words}
use Rattle.hop_words.proofs.closing.Returned.learn.Goals as goal

pub load-requires : goal.load-requires
load-requires c =
    let t = c.table.inside.table.shared in
    let s = c.self.inside.seat in (
      ap (λ (q : Dealing). q.table) c.self.view_is ∙ (c.requires.table ∙ sym (ap (λ (x : Shown). x.id) c.table.view_is)),
      subst (λ (n : ℕ). 0 < n) (sym c.table.invariant.0) (some_words t.key.shape
          (subst (λ (x : About). IsShape x.shape) (c.about.ensures ∙ sym (ap (λ (x : Shown). x.about) c.table.view_is))
          c.cpus-cpus.ensures.in_range)),
      learns t.key t.table_id.slots s.id s.me,
    )

pub returns-clause-within : goal.returns-clause-within
returns-clause-within c = λ k l e. c.load.ensures.2.within k l (ap (λ (d : Dealing). get_elem? d.lanes k) c.self.view_is ∙ e)
