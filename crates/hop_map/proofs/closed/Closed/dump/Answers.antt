use Rattle.std.proofs.Common.{◌≡◌, ◌≤◌, ℕ, List, [], Vec, ap, sym, subst, ◌∙◌, length}
use Rattle.std.proofs.lemmas.List.{map-id}
use Rattle.std.proofs.lemmas.Map.Iter.{iter_end}
use Rattle.std.specs.declared.alloc.Global.{Global}
use Rattle.bpf_shared.specs.declared.shapes.MapShape.{MapShape}
use Rattle.bpf_shared.specs.Store.{Plain}
use Rattle.bpf_shared.specs.Listing.{IsListing, listed}
use Rattle.hop_layout.specs.declared.about.About.{About}
use Rattle.hop_words.specs.Closing.{Ending}
use Rattle.hop_map.specs.Private.Dumping.{key_in, IsReached, IsKeyAmong, AreFound}
use Rattle.hop_map.specs.Dumping.{IsBornHere}
use Rattle.hop_map.proofs.Dumps.{listing, no_listing, sorted_keys}
use Rattle.hop_map.proofs.closed.Closed.dump.Goals as goal

abbrev Entries : Type 0
Entries = List (Vec ℕ Global × Vec ℕ Global)

pub returns-then-map-maps : goal.returns-then-map-maps
returns-then-map-maps c = record {
  listed = λ last is.
      let e = c.args.self.now in
      let m = c.args.map in
      let maps : c.maps.result.now ≡ e.about.shape.maps = c.maps.ensures.maps ∙
      (ap (λ (a : About). a.shape.maps) c.about.ensures.about ∙ ap (λ (z : Ending). z.about.shape.maps) c.self.view_is) in
      let none : length e.about.shape.maps ≤ m = subst (λ (gs : List MapShape). length gs ≤ m) maps c.if-map-maps.true in
      subst (λ (es : Entries). IsListing last m (listed es)) (sym c.new.ensures.items)
      (subst (λ (s : Plain). IsListing s m []) (sym is.1) (no_listing e is.0 m none));
}

pub returns : goal.returns
returns c = record {
  listed = λ last is.
      let e = c.args.self.now in
      let m = c.args.map in
      let es = c.in_ok-found.found.entries in
      let end = iter_end (λ (x : Vec ℕ Global × Vec ℕ Global). x) es c.found.yielded _ _ _ _
      c.into_iter-pair-iterator.ensures.into_iter_gives.0 c.found.yielded_by c.in-None.is c.next.ensures.steps in
      let all : c.found.pairs.items ≡ es = c.found.invariant ∙ (sym (map-id c.found.yielded) ∙ end.0) in
      let found : AreFound e m (listed es) = subst (λ (z : Ending). AreFound z m (listed es)) c.self.view_is c.in_ok-found.ensures.found in
      let keys : (s i : ℕ) → IsBornHere e m s → IsReached e m s i → IsKeyAmong (key_in e m i) (listed es)
      = subst (λ (z : Ending). (s i : ℕ) → IsBornHere z m s → IsReached z m s i → IsKeyAmong (key_in z m i) (listed es)) c.self.view_is
      c.in_ok-found.ensures.keys in
      subst (λ (xs : Entries). IsListing last m (listed xs)) (sym all)
      (subst (λ (s : Plain). IsListing s m (listed es)) (sym is.1) (listing e is.0 m (listed es) found keys (sorted_keys es c.len.ensures.ordered)));
}
