-- What some calls note after others.
use Rattle.std.proofs.Common.{List, [], ◌∷◌, ◌++◌, refl, ap, sym, subst, ◌∙◌, append_assoc}
use Rattle.std.proofs.lemmas.List.{append-nil}
use Rattle.bpf_shared.specs.declared.events.Event.{Event}
use Rattle.hop_layout.specs.declared.about.About.{About}
use Rattle.hop_words.specs.declared.known.Known.{Known}
use Rattle.hop_words.specs.declared.known.Sight.{Sight}
use Rattle.hop_map.specs.Noting.{MayNoteEach, CallsNote}

may-append : (a : About) (es fs : List Event) (xs ys : List Sight)
    → MayNoteEach a es xs → MayNoteEach a fs ys → MayNoteEach a (es ++ fs) (ys ++ xs)
may-append a [] fs xs ys p q =
    subst (MayNoteEach a fs) (sym (ap (λ (z : List Sight). ys ++ z) p ∙ append-nil ys)) q
may-append a (e ∷ es) fs xs ys (mine, rest, is, may, others) q = (
  mine,
  ys ++ rest,
  ap (λ (z : List Sight). ys ++ z) is ∙ sym (append_assoc ys rest mine),
  may,
  may-append a es fs rest ys others q,
)

pub none_note : (a : About) (l : Known) → CallsNote a [] l l
none_note a l = ([], refl, refl)

pub notes-append : (a : About) (es fs : List Event) (l l1 l2 : Known)
    → CallsNote a es l l1 → CallsNote a fs l1 l2 → CallsNote a (es ++ fs) l l2
notes-append a es fs l l1 l2 (xs, here, may) (ys, there, then) = (
  ys ++ xs,
  there ∙ (ap (λ (z : List Sight). ys ++ z) here ∙ sym (append_assoc ys xs l.tally)),
  may-append a es fs xs ys may then,
)
