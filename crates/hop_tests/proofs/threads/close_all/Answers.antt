use Rattle.std.proofs.Common.{◌≡◌, List, [], ◌∷◌, ◌++◌, All, sym, subst, ap, ◌∙◌, append_assoc}
use Rattle.std.proofs.lemmas.List.Elements.{All-nil, All-cons, All-head, All-tail, All-append}
use Rattle.hop_map.specs.Port.{IsPortOf}
use Rattle.hop_tests.specs.declared.threads.Back.{Back}
use Rattle.hop_tests.proofs.threads.close_all.Goals as goal

here : (P : Back → Type 0) (xs : List Back) (x : Back) (ys : List Back) → All P (xs ++ x ∷ ys) → P x
here P [] x ys all = All-head P x ys all
here P (y ∷ xs) x ys all = here P xs x ys (All-tail P y (xs ++ x ∷ ys) all)

pub backs-preserved : goal.backs-preserved
backs-preserved c =
    let i = c.backs.invariant in
    let back = c.in-Some.back in
    let rest = c.next.new.self.rest.items in
    let fits = IsPortOf c.args.table in
    let whole : c.backs.yielded ++ back ∷ rest ≡ c.args.backs.items = ap (λ (l : List Back). c.backs.yielded ++ l) (sym c.in-Some.ensures.steps.0) ∙ i.0 in
    let this = here (λ (b : Back). fits b.port) c.backs.yielded back rest (subst (All (λ (b : Back). fits b.port)) (sym whole) c.requires.fit) in (
      append_assoc c.backs.yielded (back ∷ []) rest ∙ whole,
      subst (All fits) (sym c.in_ok-push.ensures.items) (All-append fits c.backs.ports.items (back.port ∷ []) i.1
          (All-cons fits back.port [] this (All-nil fits))),
    )
