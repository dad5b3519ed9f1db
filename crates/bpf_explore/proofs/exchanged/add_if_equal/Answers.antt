use Rattle.std.proofs.Common.{◌≡◌, ◌∙◌, ◌++◌, ◌∷◌, [], ℕ, List, length, take, drop, refl, ap, subst, arith}
use Rattle.std.proofs.lemmas.List.{take_at}
use Rattle.bpf_explore.specs.Private.Hung.{IsAmong}
use Rattle.bpf_explore.proofs.ExchangedLaws.{as_exchanged, grows_so, listed_so, pushed_among}
use Rattle.bpf_explore.proofs.exchanged.add_if_equal.Goals as goal

pub returns-then-is_listed-clause-listed : goal.returns-then-is_listed-clause-listed
returns-then-is_listed-clause-listed c =
    let old = c.args.hung.now.items in
    let new = c.exchange_turns.new.by in
    let vec = c.in_ok-exchanged.exchanged in
    let size : length new ≡ vec.len = omega (arith, c.exchange_turns.auto.by, c.deref_mut.ensures.len) in
    let made : take vec.len (new ++ drop (length new) vec.items) ≡ new = take_at new (drop (length new) vec.items) vec.len size in
    let among : IsAmong old new = subst (IsAmong old) (c.deref-2.ensures.value ∙ made)
    (subst (λ (hs : List (List (ℕ × ℕ))). IsAmong hs c.deref-2.result.now) c.deref.ensures.value (c.if-is_listed.ensures refl)) in
    listed_so c.args.peers.now c.args.jobs.0 c.args.jobs.1 _ _ c.args.by.now new
    (as_exchanged _ new _ c.args.by.now c.exchange_turns.ensures (c.deref_mut.ensures.value ∙ c.in_ok-exchanged.ensures))
    old among

pub returns-clause-listed : goal.returns-clause-listed
returns-clause-listed c =
    let old = c.args.hung.now.items in
    let new = c.exchange_turns.new.by in
    let vec = c.in_ok-exchanged.exchanged in
    let size : length new ≡ vec.len = omega (arith, c.exchange_turns.auto.by, c.deref_mut.ensures.len) in
    let made : take vec.len (new ++ drop (length new) vec.items) ≡ new = take_at new (drop (length new) vec.items) vec.len size in
    let push = c.in_ok-push.ensures.items ∙ ap (λ (by : List (ℕ × ℕ)). old ++ by ∷ []) (c.new.ensures ∙ made) in
    listed_so c.args.peers.now c.args.jobs.0 c.args.jobs.1 _ _ c.args.by.now new
    (as_exchanged _ new _ c.args.by.now c.exchange_turns.ensures (c.deref_mut.ensures.value ∙ c.in_ok-exchanged.ensures))
    c.push.new.self.items (pushed_among old c.push.new.self.items new push)

pub returns-clause-grows : goal.returns-clause-grows
returns-clause-grows c =
    let old = c.args.hung.now.items in
    let new = c.exchange_turns.new.by in
    let vec = c.in_ok-exchanged.exchanged in
    let size : length new ≡ vec.len = omega (arith, c.exchange_turns.auto.by, c.deref_mut.ensures.len) in
    let made : take vec.len (new ++ drop (length new) vec.items) ≡ new = take_at new (drop (length new) vec.items) vec.len size in
    let push = c.in_ok-push.ensures.items ∙ ap (λ (by : List (ℕ × ℕ)). old ++ by ∷ []) (c.new.ensures ∙ made) in
    grows_so c.args.peers.now c.args.jobs.0 c.args.jobs.1 _ _ c.args.by.now new
    (as_exchanged _ new _ c.args.by.now c.exchange_turns.ensures (c.deref_mut.ensures.value ∙ c.in_ok-exchanged.ensures))
    c.hung_are_exchanged.ensures c.requires.less c.requires.within c.if-one-other.false old c.push.new.self.items c.requires.among push
