-- Whoever has the locks of all segments of a map, and nothing left to write, reads the last store's
-- map in their words.
use Rattle.std.proofs.Common.{◌≡◌, ℕ, ◌<◌, false, List, [], ◌∷◌, Option, Some, None, is_some, length, refl, ap, sym, subst, ◌∙◌, ⊎_elim}
use Rattle.std.specs.FinMap.{get}
use Rattle.bpf_shared.specs.declared.events.Event.TheVariants.{Keys}
use Rattle.bpf_shared.specs.Store.{Plain}
use Rattle.bpf_shared.specs.KeyOrder.{is_among, in_order}
use Rattle.bpf_shared.proofs.KeyOrder.{in_order_is}
use Rattle.hop_layout.specs.declared.about.About.{About}
use Rattle.hop_words.specs.declared.known.Known.{Known}
use Rattle.hop_words.specs.declared.known.Lock.{Lock}
use Rattle.hop_layout.specs.declared.place.Place.TheVariants.{Stamp}
use Rattle.hop_words.specs.Ghost.{IsHomeIn, Each}
use Rattle.hop_words.specs.Rule.{numbered}
use Rattle.hop_words.specs.Private.Step.{Steps}
use Rattle.hop_words.specs.Kinds.{ShowsLinks, AnswersAll, AnsweredAll}
use Rattle.hop_words.specs.Locking.{lock_of, other_locks}
use Rattle.hop_words.specs.Listing.{ListsSegment, IsHomeAmong, ListsMap}
use Rattle.hop_words.proofs.Unlocks.{unlock_several}

some_if_numbered : (f : ℕ → ℕ) (o : Option ℕ) → is_some (numbered f o) ≡ is_some o
some_if_numbered f None = refl
some_if_numbered f (Some e) = refl

-- by the lock of the key's segment, in a list that has it
module _ (a : About) (linked : ℕ → List ℕ → Option ℕ) (m : ℕ) (keys : List (List ℕ)) (q : List ℕ) where
  at_home : (ks : List Lock) → IsHomeAmong a q ks → Each (λ (k : Lock). k.map ≡ m) ks → Each (ShowsLinks a linked) ks → Each
      (ListsSegment a keys) ks → is_some (linked m q) ≡ is_among q keys
  at_home [] some of shows lists = absurd some
  at_home (k ∷ ks) some of shows lists = ⊎_elim
      (λ (home : IsHomeIn a k q). subst (λ (i : ℕ). is_some (linked i q) ≡ is_among q keys) of.0 (lists.0 (linked k.map) shows.0 q home))
      (λ (more : IsHomeAmong a q ks). at_home ks more of.1 shows.1 lists.1)
      some

module _ (a : About) (l : Known) (m : ℕ) (keys : List (List ℕ)) (i : ListsMap a l m keys) where
  abbrev k : Lock
  k = lock_of l

  abbrev rest : List Lock
  rest = other_locks l

  -- the contents together are the map
  pub listed : (s : Plain) (linked : ℕ → List ℕ → Option ℕ) (number : ℕ → ℕ → ℕ) → Each (ShowsLinks a linked) (k ∷ rest)
      → ((n : ℕ) (q : List ℕ) → get (s.maps n) q ≡ numbered (number n) (linked n q)) → in_order keys ≡ Rattle.std.specs.FinMap.keys (s.maps m)
  listed s linked number shows leads = in_order_is (s.maps m) keys (λ q.
      ap is_some (leads m q) ∙ (some_if_numbered (number m) (linked m q)
      ∙ at_home a linked m keys q (k ∷ rest)
      (subst (IsHomeAmong a q) i.locks (i.all q)) (subst (Each (λ (j : Lock). j.map ≡ m)) i.locks i.of_map)
      shows (subst (Each (ListsSegment a keys)) i.locks i.lists)))

  pub lists_all : AnswersAll a l k rest (Keys m (in_order keys))
  lists_all = record {
    lock = i.locks;
    clean = subst (Each (λ (j : Lock). j.dirty ≡ false)) i.locks i.clean;
    elsewhere = i.elsewhere;
    quiet = refl;
    uncaused = λ made x. tt;
    allowed = λ s linked number shape inside shows leads. (
      subst (λ h. l.cpu < h.cpus) (sym shape) inside,
      subst (λ h. m < length h.maps) (sym shape) i.map,
      listed s linked number shows leads,
      refl,
    );
  }

  pub unlock_keys : Steps a l (Stamp k.map k.segment) (λ _. k.stamp) (λ ws n l'. AnsweredAll a l rest (Keys m (in_order keys)) l')
  unlock_keys = unlock_several a l k rest (Keys m (in_order keys)) lists_all
