use Rattle.std.proofs.Common.{ℕ, ◌<◌, [], ap, sym, subst, ◌∙◌}
use Rattle.bpf_shared.specs.Shape.{IsShape}
use Rattle.hop_layout.specs.declared.about.About.{About}
use Rattle.hop_words.specs.Inside.{Shown}
use Rattle.hop_words.specs.Opens.{opens}
use Rattle.hop_words.proofs.Gathers.{comes}
use Rattle.hop_words.proofs.Dealt.{some_words}
use Rattle.hop_words.proofs.closing.Returned.new.Goals as goal

pub load_new_seat-seat-requires : goal.load_new_seat-seat-requires
load_new_seat-seat-requires c =
    let t = c.table.inside.table.shared in (
      subst (λ (n : ℕ). 0 < n) (sym c.table.invariant.0) (some_words t.key.shape
          (subst (λ (x : About). IsShape x.shape) (c.about.ensures ∙ sym (ap (λ (x : Shown). x.about) c.table.view_is))
          c.cpus-cpus.ensures.in_range)),
      comes t.key t.table_id.slots (opens t.key, []),
    )
