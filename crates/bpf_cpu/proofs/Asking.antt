-- Events whose calls are alike, each after those before it.
use Rattle.std.proofs.Common.{◌≡◌, List, [], ◌∷◌, ◌++◌, Some, None, refl, sym, ap, ◌∙◌}
use Rattle.bpf_shared.specs.Laws.{asked}
use Rattle.bpf_shared.specs.declared.events.Event.{Event}
use Rattle.bpf_helpers.specs.Laws.{first_call, AreAskedAlike}

none_behind : (before rest : List Event) → [] ≡ before ++ rest → rest ≡ []
none_behind [] rest e = sym e
none_behind (b ∷ bs) rest e = absurd cc

-- no call at all
pub asks-nothing : (events others : List Event) → events ≡ [] → others ≡ [] → AreAskedAlike events others
asks-nothing events others e f before rest later g h =
    ap first_call (none_behind before rest (sym e ∙ g)) ∙ sym (ap first_call (none_behind before later (sym f ∙ h)))

-- one call, and it is the same
one_alike : (e f : Event) → asked e ≡ asked f → AreAskedAlike (e ∷ []) (f ∷ [])
one_alike e f same [] rest later g h = sym (ap first_call g) ∙ ap Some same ∙ ap first_call h
one_alike e f same (b ∷ bs) rest later g h =
    let left : [] ≡ bs ++ rest = cc in
    let right : [] ≡ bs ++ later = cc in
    ap first_call (none_behind bs rest left) ∙ sym (ap first_call (none_behind bs later right))

pub asks-one : (events others : List Event) (e f : Event) → events ≡ e ∷ [] → others ≡ f ∷ [] → asked e ≡ asked f → AreAskedAlike events others
asks-one events others e f g h same before rest later i j = one_alike e f same before rest later (sym g ∙ i) (sym h ∙ j)

-- the first calls are alike, and the others after equal events
pub asks-first : (e f : Event) (es fs : List Event) → AreAskedAlike (e ∷ es) (f ∷ fs) → asked e ≡ asked f
asks-first e f es fs alike = let same : Some (asked e) ≡ Some (asked f) = alike [] (e ∷ es) (f ∷ fs) refl refl in cc

pub asks-behind : (e f : Event) (es fs : List Event) → e ≡ f → AreAskedAlike (e ∷ es) (f ∷ fs) → AreAskedAlike es fs
asks-behind e f es fs same alike before rest later g h =
    let left : e ∷ es ≡ (e ∷ before) ++ rest = ap (λ xs. e ∷ xs) g in
    let right : f ∷ fs ≡ (e ∷ before) ++ later = cc in
    alike (e ∷ before) rest later left right

-- neither goes on where the other ends
pub asks-end : (f : Event) (fs : List Event) → AreAskedAlike [] (f ∷ fs) → ⊥
asks-end f fs alike = let same : None ≡ Some (asked f) = alike [] [] (f ∷ fs) refl refl in cc

pub asks-end' : (e : Event) (es : List Event) → AreAskedAlike (e ∷ es) [] → ⊥
asks-end' e es alike = let same : Some (asked e) ≡ None = alike [] (e ∷ es) [] refl refl in cc

-- two that begin one list are equal
pub same_beginnings : (xs ys rest more : List Event) → AreAskedAlike xs ys → xs ++ rest ≡ ys ++ more → (xs ≡ ys) × (rest ≡ more)
same_beginnings [] [] rest more alike e = (refl, e)
same_beginnings [] (y ∷ ys) rest more alike e = absurd (asks-end y ys alike)
same_beginnings (x ∷ xs) [] rest more alike e = absurd (asks-end' x xs alike)
same_beginnings (x ∷ xs) (y ∷ ys) rest more alike e =
    let first : x ≡ y = cc in
    let behind : xs ++ rest ≡ ys ++ more = cc in
    let same = same_beginnings xs ys rest more (asks-behind x y xs ys first alike) behind in
    let fronts : xs ≡ ys = same.0 in
    (cc, same.1)
