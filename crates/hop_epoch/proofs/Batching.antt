-- What a step on the batches of a map leaves as it was.
use Rattle.std.proofs.Common.{◌≡◌, ◌≢◌, inr, ⊎_elim, ℕ, suc, ◌+◌, ◌%◌, ◌<◌, List, [], ◌∷◌, ◌++◌, Option, Some, length, slice_index, set}
use Rattle.std.proofs.Common.{length-set, get_or-set_same, get_or-set_other, append_assoc, nat_lt, true, refl, ap, sym, subst, ◌∙◌, arith}
use Rattle.std.proofs.lemmas.Bool.Decides.{nat_tests}
use Rattle.std.proofs.lemmas.Bool.{cases_eq}
use Rattle.bpf_shared.specs.Shape.{Shape, IsShape, elements}
use Rattle.hop_layout.specs.Layout.{map_shape}
use Rattle.hop_layout.specs.declared.about.About.{About}
use Rattle.hop_words.specs.declared.known.Known.{Known}
use Rattle.hop_words.specs.declared.known.Limbo.{Limbo}
use Rattle.hop_words.specs.declared.known.Sight.{Sight}
use Rattle.hop_layout.specs.declared.place.Place.TheVariants.{RunCount}
use Rattle.hop_words.specs.Sights.{IsLook, LeavesLocks, look, sighted}
use Rattle.hop_words.specs.Content.{item}
use Rattle.hop_words.specs.Ghost.{HasElement, Each, limbo_at, no_limbo}
use Rattle.hop_words.specs.Rule.{link_to}
use Rattle.hop_words.specs.Kinds.{limbo_set, cleared, giving_old}
use Rattle.hop_words.specs.Owning.{tail_of}
use Rattle.hop_layout.proofs.Maps.{map_is}
use Rattle.hop_words.proofs.Sighted.{each-append}
use Rattle.hop_words.proofs.Shares.{some_once}
use Rattle.hop_epoch.specs.Batch.{front, Notes, Tracks, KeepsBatches, LooksAtCounters, AreEven, SeesRunning}

pub at_set : (l : Known) (m : ℕ) (x : Limbo) → m < length l.limbo → limbo_at (limbo_set l m x).limbo m ≡ x
at_set l m x room = get_or-set_same l.limbo m x no_limbo room

pub keeps_then : (m : ℕ) (l k l' : Known) → KeepsBatches m l k → KeepsBatches m k l' → KeepsBatches m l l'
keeps_then m l k l' p q = record {
  cpu = q.cpu ∙ p.cpu;
  seen = q.seen ∙ p.seen;
  fresh = q.fresh ∙ p.fresh;
  locks = q.locks ∙ p.locks;
  readings = q.readings ∙ p.readings;
  size = q.size ∙ p.size;
  others = λ n ne. q.others n ne ∙ p.others n ne;
  used = q.used ∙ p.used;
  sights = (
    q.sights.0 ++ p.sights.0,
    q.sights.1 ∙ (ap (λ (z : List Sight). q.sights.0 ++ z) p.sights.1 ∙ sym (append_assoc q.sights.0 p.sights.0 l.tally)),
    each-append LeavesLocks q.sights.0 p.sights.0 q.sights.2 p.sights.2,
  );
}

pub keeps_itself : (m : ℕ) (l : Known) → KeepsBatches m l l
keeps_itself m l = record {
  cpu = refl;
  seen = refl;
  fresh = refl;
  locks = refl;
  readings = refl;
  size = refl;
  others = λ n ne. refl;
  used =
      refl;
  sights = ([], refl, tt);
}

pub keeps_set : (m : ℕ) (l : Known) (x : Limbo) → m < length l.limbo → x.used ≡ (limbo_at l.limbo m).used → KeepsBatches m l (limbo_set l m x)
keeps_set m l x room same = record {
  cpu = refl;
  seen = refl;
  fresh = refl;
  locks = refl;
  readings = refl;
  size = length-set l.limbo m x;
  others = λ n ne. get_or-set_other l.limbo m n x no_limbo ne;
  used = ap (λ (y : Limbo). y.used) (at_set l m x room) ∙ same;
  sights = ([], refl, tt);
}

pub keeps_sighted : (m : ℕ) (l k : Known) (s : Sight) → LeavesLocks s → KeepsBatches m l k → KeepsBatches m l (sighted k s)
keeps_sighted m l k s leaves p = record {
  cpu = p.cpu;
  seen = p.seen;
  fresh = p.fresh;
  locks = p.locks;
  readings = p.readings;
  size =
      p.size;
  others = p.others;
  used = p.used;
  sights = (s ∷ p.sights.0, ap (λ (z : List Sight). s ∷ z) p.sights.1, (leaves, p.sights.2));
}

-- ---- a look at a counter
pub looks_same : (m : ℕ) (l k k' : Known) (s : Sight) → IsLook s → LooksAtCounters m l k → k' ≡ sighted k s → LooksAtCounters m l k'
looks_same m l k k' s is p e = subst (LooksAtCounters m l) (sym e) (record {
  keeps = keeps_sighted m l k s (λ n i _. is) p.keeps;
  young = p.young;
  old = p.old;
  more = s ∷ p.more;
  sights = ap (λ (z : List Sight). s ∷ z) p.sights;
})

pub looks_cleared : (m d : ℕ) (l k k' : Known) (s : Sight) → IsLook s → m < length k.limbo → LooksAtCounters m l k → k' ≡ sighted
    (cleared k m d) s → LooksAtCounters m l k'
looks_cleared m d l k k' s is room p e =
    let x : Limbo = record (limbo_at k.limbo m) { noted = set (limbo_at k.limbo m).noted d 0 } in
    subst (LooksAtCounters m l) (sym e) (record {
      keeps = keeps_sighted m l (cleared k m d) s (λ n i _. is) (keeps_then m l k (cleared k m d) p.keeps (keeps_set m k x room refl));
      young = ap (λ (y : Limbo). y.young) (at_set k m x room) ∙ p.young;
      old = ap (λ (y : Limbo). y.old) (at_set k m x room) ∙ p.old;
      more = s ∷ p.more;
      sights = ap (λ (z : List Sight). s ∷ z) p.sights;
    })

pub noted_cleared : (m d : ℕ) (k k' : Known) (s : Sight) → m < length k.limbo → k' ≡ sighted (cleared k m d) s → (limbo_at k'.limbo m).noted
    ≡ set (limbo_at k.limbo m).noted d 0
noted_cleared m d k k' s room e = ap (λ (l : Known). (limbo_at l.limbo m).noted) e ∙ ap (λ (y : Limbo). y.noted)
    (at_set k m (record (limbo_at k.limbo m) { noted = set (limbo_at k.limbo m).noted d 0 }) room)

-- both lists of counters have a 0 there
pub notes_cleared : (a : About) (ks ns : List ℕ) (d : ℕ) → d < length ns → d < length ks → Notes a ks ns → Notes a (set ks d 0) (set ns d 0)
notes_cleared a ks ns d few less p = (
  length-set ks d 0 ∙ p.0,
  λ c lt. ⊎_elim
      (λ (t : c ≡ d). subst (λ (i : ℕ). slice_index (set ks d 0) i ≡ slice_index (set ns d 0) i) (sym t)
      (get_or-set_same ks d 0 0 less ∙ sym (get_or-set_same ns d 0 0 few)))
      (λ (ne : c ≢ d). get_or-set_other ks d c 0 0 ne ∙ (p.1 c lt ∙ sym (get_or-set_other ns d c 0 0 ne)))
      (cases_eq c d),
)

pub even_cleared : (ns : List ℕ) (d : ℕ) → d < length ns → AreEven d ns → AreEven (d + 1) (set ns d 0)
even_cleared ns d few p c lt = ⊎_elim
    (λ (t : c ≡ d). subst (λ (i : ℕ). slice_index (set ns d 0) i % 2 ≡ 0) (sym t) (ap (λ (n : ℕ). n % 2) (get_or-set_same ns d 0 0 few)))
    (λ (ne : c ≢ d). ap (λ (n : ℕ). n % 2) (get_or-set_other ns d c 0 0 ne) ∙ p c (grind arith))
    (cases_eq c d)

pub even_on : (ns : List ℕ) (d : ℕ) → slice_index ns d % 2 ≡ 0 → AreEven d ns → AreEven (d + 1) ns
even_on ns d even p c lt = ⊎_elim
    (λ (t : c ≡ d). subst (λ (i : ℕ). slice_index ns i % 2 ≡ 0) (sym t) even)
    (λ (ne : c ≢ d). p c (grind arith))
    (cases_eq c d)

-- ---- the old batch, an element less
most : (h : Shape) (m e : ℕ) → IsShape h → m < length h.maps → e < elements (map_shape h m) → e < 4294967296
most h m e is inside few = let s = is.each m (map_shape h m) (map_is h m inside) in let a = s.max.1 in let b = s.spare in omega arith

pub front_item : (a : About) (m : ℕ) (es : List ℕ) → IsShape a.shape → Each (HasElement a m) es → item (link_to es) ≡ front es
front_item a m [] is all = refl
front_item a m (e ∷ es) is all =
    let z : e + 1 ≡ suc e = omega arith in
    let few = most a.shape m e is all.0.0 all.0.1 in
    let t : nat_lt e 4294967296 ≡ true = grind (arith, nat_tests) in
    ap item z ∙ rw t refl

pub front_is : (es : List ℕ) (e : ℕ) → Some e ≡ front es → es ≡ e ∷ tail_of es
front_is [] e is = cc
front_is (x ∷ xs) e is = let z : x ≡ e = some_once x e (sym is) in ap (λ (i : ℕ). i ∷ xs) z

pub first_of : (a : About) (m e : ℕ) (es : List ℕ) → es ≡ e ∷ tail_of es → Each (HasElement a m) es → HasElement a m e × Each (HasElement a m) (tail_of es)
first_of a m e es is all = let t = subst (Each (HasElement a m)) is all in (t.0, t.1)

-- what is known after the first element of the old batch was given back
pub gives_on : (a : About) (m e : ℕ) (l k k' : Known) (s : Sight) (young : Option ℕ) (ns : List ℕ) (link : ℕ) → IsShape a.shape → Tracks a k
    m young (Some e) ns → Notes a (limbo_at k.limbo m).noted ns
    → k' ≡ sighted (giving_old k m (tail_of (limbo_at k.limbo m).old)) s → link ≡ link_to (tail_of (limbo_at k.limbo m).old) → Tracks a k' m
    young (item link) ns
gives_on a m e l k k' s young ns link is p n given linked =
    let x : Limbo = record (limbo_at k.limbo m) { old = tail_of (limbo_at k.limbo m).old } in
    let now = at_set k m x p.room in
    let old = front_is (limbo_at k.limbo m).old e p.old_is in
    let rest = first_of a m e (limbo_at k.limbo m).old old p.old_inside in
    subst (λ (y : Known). Tracks a y m young (item link) ns) (sym given) (record {
      room = subst (λ (i : ℕ). m < i) (sym (length-set k.limbo m x)) p.room;
      young_is = p.young_is ∙ ap (λ (y : Limbo). front y.young) (sym now);
      old_is = ap item linked ∙ (front_item a m (tail_of (limbo_at k.limbo m).old) is rest.1 ∙ ap (λ (y : Limbo). front y.old) (sym now));
      young_inside = subst (λ (y : Limbo). Each (HasElement a m) y.young) (sym now) p.young_inside;
      old_inside = subst (λ (y : Limbo). Each (HasElement a m) y.old) (sym now) rest.1;
      counters = inr (subst (λ (y : Limbo). Notes a y.noted ns) (sym now) n);
    })

-- what was seen last after something else was seen
pub running_after : (m : ℕ) (l k l' : Known) (before : List Sight) → k.tally ≡ before ++ l.tally → SeesRunning m k l' → SeesRunning m l l'
running_after m l k l' before e r = (
  r.0,
  r.1 ++ before,
  r.2 ∙ ap (λ (z : List Sight). look (RunCount r.0) (slice_index (limbo_at l'.limbo m).noted r.0) ∷ z)
      (ap (λ (z : List Sight). r.1 ++ z) e ∙ sym (append_assoc r.1 before l.tally)),
  r.3,
)
