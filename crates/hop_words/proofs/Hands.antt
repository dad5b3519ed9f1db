-- The steps on the first element in hand, named by its map and its number.
use Rattle.std.proofs.Common.{◌≡◌, ℕ, ◌/◌, ◌%◌, ◌^◌, List, [], ◌∷◌, ◌++◌, bit_or, ap, sym, subst, ◌∙◌, ◌<◌}
use Rattle.hop_layout.specs.declared.place.Place.{Place}
use Rattle.hop_layout.specs.declared.place.Place.TheVariants.{FreeBits, KeyWord, ValueWord}
use Rattle.hop_layout.specs.declared.about.About.{About}
use Rattle.hop_words.specs.declared.known.Known.{Known}
use Rattle.hop_words.specs.declared.known.Fresh.{Fresh}
use Rattle.hop_words.specs.Ghost.{HasElement}
use Rattle.hop_words.specs.Sights.{bit_set, sighted}
use Rattle.hop_words.specs.Private.Step.{Steps, Notes}
use Rattle.bpf_shared.specs.History.{events_of}
use Rattle.hop_words.specs.Shortage.{updates_of}
use Rattle.hop_words.specs.Owning.{IsInHand, IsUpdateAnswered, update_in_hand, tail_of, key_filled, value_filled, with_key_word, with_value_word}
use Rattle.hop_words.proofs.Fills.{fill_key, fill_value, give_fresh}

module _ (a : About) (l : Known) (m e : ℕ) (at_e : HasElement a m e) (h : IsInHand l m e) where
  abbrev f : Fresh
  f = h.0

  at_f : HasElement a f.map f.element
  at_f = subst (λ (n : ℕ). HasElement a n f.element) (sym h.2) (subst (HasElement a m) (sym h.3) at_e)

  pub gives : IsUpdateAnswered l m → Notes a l (FreeBits m (e / 64)) (λ n. bit_or n (2 ^ (e % 64)))
      (λ ws n l'. l' ≡ sighted (record l { fresh = tail_of l.fresh }) (bit_set m e n))
  gives answered =
      subst (λ (n : ℕ). Notes a l (FreeBits n (e / 64)) (λ n. bit_or n (2 ^ (e % 64)))
      (λ ws i l'. l' ≡ sighted (record l { fresh = tail_of l.fresh }) (bit_set n e i))) h.2
      (subst (λ (d : ℕ). Notes a l (FreeBits f.map (d / 64)) (λ n. bit_or n (2 ^ (d % 64)))
      (λ ws i l'. l' ≡ sighted (record l { fresh = tail_of l.fresh }) (bit_set f.map d i))) h.3
      (give_fresh a l f (tail_of l.fresh) h.1 at_f (subst (λ (n : ℕ). f.update < updates_of n (events_of l.cpu l.seen)) (sym h.2)
      (subst (λ (fs : List Fresh). update_in_hand fs < updates_of m (events_of l.cpu l.seen)) h.1 answered))))

  pub fills_key : (k n : ℕ) → l.locks ≡ [] → k ≡ key_filled l.fresh → Steps a l (KeyWord m e k) (λ _. n)
      (λ ws found l'. l' ≡ record l { fresh = with_key_word l.fresh n })
  fills_key k n unlocked next =
      subst (λ (fs : List Fresh). Steps a l (KeyWord m e k) (λ _. n) (λ ws found l'. l' ≡ record l { fresh = with_key_word fs n })) (sym h.1)
      (subst (λ (p : Place). Steps a l p (λ _. n) (λ ws found l'. l' ≡ record l
      { fresh = record f { key = f.key ++ n ∷ [] } ∷ tail_of l.fresh })) (λ i. KeyWord (h.2 i) (h.3 i) ((sym (ap key_filled h.1) ∙ sym next) i))
      (fill_key a l f (tail_of l.fresh) n h.1 at_f unlocked))

  pub fills_value : (k n : ℕ) → l.locks ≡ [] → k ≡ value_filled l.fresh → Steps a l (ValueWord m e k) (λ _. n)
      (λ ws found l'. l' ≡ record l { fresh = with_value_word l.fresh n })
  fills_value k n unlocked next =
      subst (λ (fs : List Fresh). Steps a l (ValueWord m e k) (λ _. n) (λ ws found l'. l' ≡ record l { fresh = with_value_word fs n })) (sym h.1)
      (subst (λ (p : Place). Steps a l p (λ _. n) (λ ws found l'. l' ≡ record l
      { fresh = record f { value = f.value ++ n ∷ [] } ∷ tail_of l.fresh }))
      (λ i. ValueWord (h.2 i) (h.3 i) ((sym (ap value_filled h.1) ∙ sym next) i))
      (fill_value a l f (tail_of l.fresh) n h.1 at_f unlocked))
