-- How many words a lookup without a lock loads.
use Rattle.std.proofs.Common.{◌≡◌, ◌≢◌, ℕ, suc, ◌+◌, ◌*◌, ◌%◌, ◌≤◌, List, [], ◌∷◌, ◌++◌, Option, length, append_assoc, refl, ap, sym, subst, ◌∙◌, arith}
use Rattle.std.proofs.lemmas.List.{length-append}
use Rattle.bpf_shared.specs.Shape.{elements}
use Rattle.hop_layout.specs.declared.about.About.{About}
use Rattle.hop_layout.specs.declared.place.Place.TheVariants.{Stamp}
use Rattle.hop_layout.specs.Layout.{words_for}
use Rattle.hop_words.specs.declared.known.Known.{Known}
use Rattle.hop_words.specs.declared.known.Peek.{Peek}
use Rattle.hop_words.specs.declared.known.Sight.{Sight}
use Rattle.hop_words.specs.Ghost.{shape_at, Each}
use Rattle.hop_words.specs.Kinds.{StampSeenAgain}
use Rattle.hop_words.specs.Peeking.{latest_reading}
use Rattle.hop_words.specs.Sights.{look, IsLook}
use Rattle.hop_words.proofs.Sighted.{each-append}
use Rattle.hop_map.specs.Finding.{LeadsAlong, LooksAtMost, most_loads}
use Rattle.hop_map.specs.Private.Finding.{Walked}
use Rattle.hop_map.specs.Private.Peeks.{Peeked, OnlyReads, looks_of, looks_noted, key_words_of, elements_in}
use Rattle.hop_map.proofs.Onces.{all_looks}

length_looks : (ps : List Peek) → length (looks_of ps) ≡ length ps
length_looks [] = refl
length_looks (p ∷ ps) = ap suc (length_looks ps)

module _ (a : About) (l : Known) (m home s n : ℕ) (l1 : Known) (w : Walked a l m home s n l1) where
  -- the way has looks alone
  looks : Each IsLook w.way
  looks = go s w.way w.is_way.leads
    where
      go : (s : ℕ) (way : List Sight) → LeadsAlong a m home s way → Each IsLook way
      go s [] leads = tt
      go s (x ∷ xs) leads = (subst IsLook (sym leads.2) refl, go leads.0 xs leads.5)

  -- a locked stamp is the last load
  pub loads_stopped : n % 2 ≡ 1 → LooksAtMost (most_loads a m) l l1
  loads_stopped odd = record {
    sights = look (Stamp m s) n ∷ w.way;
    noted = ap (λ (z : Known). z.tally) (w.locked odd);
    looks = (refl, looks);
    few = let z = w.short in omega arith;
  }

  module _ (even : n % 2 ≡ 0) (x y : Peeked) (xa : x.about ≡ a) (xk : x.known ≡ l1) (xm : x.map ≡ m) (r : OnlyReads x y)
      (reads : looks_noted y ≤ looks_noted x + 2 + (32 + elements_in x) * (1 + key_words_of x)) where
    abbrev more : ℕ
    more = (32 + elements (shape_at a m)) * (1 + words_for (shape_at a m).key)

    words_few : length (looks_of r.more) ≤ 2 + more
    words_few =
        let total : looks_noted y ≡ length (looks_of r.more) + looks_noted x = ap length r.noted ∙ length-append (looks_of r.more) x.known.tally in
        let here : looks_noted y ≤ looks_noted x + 2 + more = subst
        (λ (b : About). looks_noted y ≤ looks_noted x + 2 + (32 + elements (shape_at b m)) * (1 + words_for (shape_at b m).key)) xa
        (subst (λ (i : ℕ). looks_noted y ≤ looks_noted x + 2 + (32 + elements (shape_at x.about i)) * (1 + words_for (shape_at x.about i).key)) xm reads) in
        omega arith

    noted_then : y.known.tally ≡ looks_of r.more ++ (look (Stamp m s) n ∷ (w.way ++ l.tally))
    noted_then = r.noted ∙ ap (λ (z : Known). looks_of r.more ++ z.tally) (xk ∙ (w.free even).0)

    -- one stamp more
    pub loads_then : (i : ℕ) (l3 : Known) → (q t : ℕ) → l3.tally ≡ look (Stamp q t) i ∷ y.known.tally → LooksAtMost (most_loads a m) l l3
    loads_then i l3 q t last = record {
      sights = look (Stamp q t) i ∷ (looks_of r.more ++ (look (Stamp m s) n ∷ w.way));
      noted = last ∙ (ap (λ (ss : List Sight). look (Stamp q t) i ∷ ss) noted_then ∙ ap (λ (ss : List Sight). look (Stamp q t) i ∷ ss)
          (sym (append_assoc (looks_of r.more) (look (Stamp m s) n ∷ w.way) l.tally)));
      looks = (refl, each-append IsLook (looks_of r.more) (look (Stamp m s) n ∷ w.way) (all_looks r.more) (refl, looks));
      few =
          let z = w.short in
          let f = words_few in
          let len = length-append (looks_of r.more) (look (Stamp m s) n ∷ w.way) in
          omega arith;
    }

    pub loads_last : (key : List ℕ) (o : Option ℕ) (i : ℕ) (l3 : Known) → StampSeenAgain y.about y.known (latest_reading y.known) key o i l3
        → i ≢ (latest_reading y.known).stamp → LooksAtMost (most_loads a m) l l3
    loads_last key o i l3 seen ne = loads_then i l3 (latest_reading y.known).map (latest_reading y.known).segment (ap (λ (z : Known). z.tally) (seen.1 ne))

    pub loads_found : (key : List ℕ) (o : Option ℕ) (i : ℕ) (l3 : Known) → StampSeenAgain y.about y.known (latest_reading y.known) key o i
        l3 → i ≡ (latest_reading y.known).stamp → LooksAtMost (most_loads a m) l l3
    loads_found key o i l3 seen same = loads_then (latest_reading y.known).stamp l3 (latest_reading y.known).map
        (latest_reading y.known).segment (ap (λ (z : Known). z.tally) (seen.0 same).after)
