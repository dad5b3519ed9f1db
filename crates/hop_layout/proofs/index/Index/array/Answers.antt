use Rattle.std.proofs.Common.{ℕ, ◌<◌, ap, sym, subst, ◌∙◌, length, slice_index_or}
use Rattle.hop_layout.specs.declared.about.About.{About}
use Rattle.hop_layout.specs.declared.place.Place.TheVariants.{FixedWord}
use Rattle.hop_layout.specs.Layout.{at}
use Rattle.std.proofs.lemmas.Option.{get_or_from_slice_get}
use Rattle.hop_layout.proofs.index.Index.array.Goals as goal

pub returns : goal.returns
returns c =
    let inside : c.args.array < length c.self.inside.about.shape.arrays = subst (λ (x : About). c.args.array < length x.shape.arrays)
    (sym c.self.view_is) c.requires.there in
    let own = get_or_from_slice_get c.self.inside.arrays.items c.args.array (at c.self.inside.about.shape (FixedWord c.args.array 0))
    c.index.result.now (c.self.invariant.arrays c.args.array inside) in
    record {
      start = c.index.ensures ∙ (ap (λ (i : ℕ). slice_index_or c.self.inside.arrays.items i c.index.result.now) c.from.ensures ∙
          (own ∙ ap (λ (x : About). at x.shape (FixedWord c.args.array 0)) c.self.view_is));
    }
