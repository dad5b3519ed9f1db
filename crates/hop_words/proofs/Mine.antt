-- Read under lock, of an element whose link the lane may write.
use Rattle.std.proofs.Common.{◌≡◌, ℕ, ◌<◌, List, ◌∷◌, refl, ap, sym, subst, ◌∙◌, ⊎_elim}
use Rattle.hop_layout.specs.declared.place.Place.TheVariants.{Link, KeyWord, Stamp}
use Rattle.hop_layout.specs.declared.about.About.{About}
use Rattle.hop_words.specs.declared.known.Known.{Known}
use Rattle.hop_words.specs.declared.known.Fresh.{Fresh}
use Rattle.hop_words.specs.declared.known.Lock.{Lock}
use Rattle.hop_layout.specs.declared.place.Place.{Place}
use Rattle.hop_layout.specs.Layout.{mem}
use Rattle.hop_words.specs.Content.{words_by_place}
use Rattle.hop_words.specs.Ghost.{Filling, lane, Ghost, HasElement, lock_home}
use Rattle.hop_words.specs.Rule.{Rule, Holds, Minded, image}
use Rattle.hop_words.specs.Private.Step.{Steps}
use Rattle.hop_words.specs.Kinds.{MayLink}
use Rattle.hop_words.proofs.Comes.{in_hand}
use Rattle.hop_words.proofs.Locks.{holds}
use Rattle.hop_words.proofs.Stays.{stay}

module _ (a : About) (l : Known) (k : Lock) {rest : List Lock} (held : l.locks ≡ k ∷ rest) (e : ℕ) (may : MayLink a l k e) where
  module _ (w : Place → ℕ) (g : Ghost) (r : Rule a w g) (is : lane g.lanes l.cpu ≡ l) (inside : l.cpu < a.shape.cpus) where
    h : Holds a g.depths (words_by_place w) (λ n t. w (Stamp n t)) g.eras g.linked g.holder l.cpu k
    h = holds a l k held w g r is

    mine : Minded (lock_home a k) l.cpu k.segment (g.holder k.map e)
    mine = ⊎_elim
        (λ (f : (f : Fresh) × (rest : List Fresh) × (l.fresh ≡ f ∷ rest) × (f.map ≡ k.map) × (f.element ≡ e)).
        subst (Minded (lock_home a k) l.cpu k.segment)
        (sym (subst (λ (x : ℕ). g.holder k.map x ≡ Filling l.cpu) f.4
        (in_hand a _ g.lanes.fresh g.lanes.limbo g.holder l.cpu k.map f.0 f.1 r.owned inside
        (subst (HasElement a k.map) (sym f.4) (h.inside.0, may.0)) f.3 (ap (λ (x : Known). x.fresh) is ∙ f.2))))
        refl)
        (λ due. let d = h.due in let t = due d.0 d.1 in subst (Minded (lock_home a k) l.cpu k.segment)
        (sym (r.linked.within k.map t.0 e (d.2 t.0 t.2 ∙ t.1)).1) t.2)
        may.1

  pub read_mine : Steps a l (Link k.map e) (λ n. n) (λ ws n l'. (n ≡ (image a k.copy).link k.map e) × (l' ≡ l))
  read_mine ws g sized r is inside fits = stay a (mem a.shape ws) g l.cpu (Link k.map e) _ r
      ((h (mem a.shape ws) g r is inside).copied.link e (mine (mem a.shape ws) g r is inside), is)

  pub read_my_key : (j : ℕ) → Steps a l (KeyWord k.map e j) (λ n. n) (λ ws n l'. (n ≡ (image a k.copy).key k.map e j) × (l' ≡ l))
  read_my_key j ws g sized r is inside fits = stay a (mem a.shape ws) g l.cpu (KeyWord k.map e j) _ r
      ((h (mem a.shape ws) g r is inside).copied.key e j (mine (mem a.shape ws) g r is inside), is)
