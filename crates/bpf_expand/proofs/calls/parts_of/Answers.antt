use Rattle.std.proofs.Common.{◌≡◌, ◌∙◌, ◌++◌, [], List, ℕ, Vec, Global, ap, length, map, refl, string_bytes, subst, sym, arith}
use Rattle.std.proofs.lemmas.List.{length-map}
use Rattle.bpf_names.specs.Names.{names_of}
use Rattle.bpf_plain.proofs.Options.{at_none}
use Rattle.bpf_expand.specs.declared.origin.Origin.{Origin}
use Rattle.bpf_expand.specs.Parts.{AreFound, AreOrigins, AreParts, ArePaired, EndsWith, LeadsTo, counts_line, end_lines, fresh, put_all}
use Rattle.bpf_expand.specs.Private.Traced.{AreTraced}
use Rattle.bpf_expand.specs.State.{Host}
use Rattle.bpf_expand.proofs.Calling.{AllFound, all_length, base_is, fresh_is}
use Rattle.bpf_expand.proofs.Tracing.{none_traced, paired_length}
use Rattle.bpf_expand.proofs.calls.parts_of.Goals as goal

pub from-new-requires : goal.from-new-requires
from-new-requires c =
    let all : AllFound c.expand_all.new.expander.host (names_of c.args.names.now) (map (λ v. v.items) c.deref-3.result.now)
    (length c.deref-3.result.now) c.put_all-2.new.self c.new-2.result c.expand_all.new.found.known c.expand_all.new.found.ends =
    at_none _ _ c.in_default.is c.in_ok-number.ensures.all in
    omega (arith, c.count-first.ensures, ap length all.3, all_length c.put_all-2.new.self all.0)

pub origin_parts-requires-clause-all : goal.origin_parts-requires-clause-all
origin_parts-requires-clause-all c =
    let h : Host = c.expand_all.new.expander.host in
    let names = names_of c.args.names.now in
    let read : List (List ℕ) = map (λ v. v.items) c.deref-3.result.now in
    let first = c.count-first.result in
    let found = c.expand_all.new.found in
    let traced : AreTraced h names read first found = at_none _ _ c.in_default.is c.in_ok-number.ensures.traced first
    (none_traced h names read first c.new.result.items c.put_all-2.new.self c.new-3.result.items c.new-2.result c.new.ensures.items
    c.count-first.ensures c.new-3.ensures.items c.new-2.ensures) in
    let paired : ArePaired (LeadsTo h read) found.origins.items (map (λ v. v.items) c.from-new.result.now) =
    subst (ArePaired (LeadsTo h read) found.origins.items) (sym c.from-new.ensures) traced.0.1 in
    ap length c.deref-4.ensures.value ∙ (paired_length (LeadsTo h read) found.origins.items (map (λ v. v.items) c.from-new.result.now) paired
    ∙ length-map c.from-new.result.now (λ v. v.items))

pub end_lines-requires : goal.end_lines-requires
end_lines-requires c =
    let h : Host = c.expand_all.new.expander.host in
    let names = names_of c.args.names.now in
    let read : List (List ℕ) = map (λ v. v.items) c.deref-3.result.now in
    let first = c.count-first.result in
    let found = c.expand_all.new.found in
    let traced : AreTraced h names read first found = at_none _ _ c.in_default.is c.in_ok-number.ensures.traced first
    (none_traced h names read first c.new.result.items c.put_all-2.new.self c.new-3.result.items c.new-2.result c.new.ensures.items
    c.count-first.ensures c.new-3.ensures.items c.new-2.ensures) in
    let paired : ArePaired (EndsWith h names read) found.numbers.items (map (λ v. v.items) c.from.result.now) =
    subst (ArePaired (EndsWith h names read) found.numbers.items) (sym c.from.ensures) traced.1.1 in
    ap length c.deref-5.ensures.value ∙ (paired_length (EndsWith h names read) found.numbers.items (map (λ v. v.items) c.from.result.now) paired
    ∙ length-map c.from.result.now (λ v. v.items))

pub returns-clause-parted : goal.returns-clause-parted
returns-clause-parted c =
    let h : Host = c.expand_all.new.expander.host in
    let names = names_of c.args.names.now in
    let f : Vec ℕ Global → List ℕ = λ v. v.items in
    let given = c.args.given.now in
    let read : List (List ℕ) = map f given.read.items in
    let seen : List (List ℕ) = map f given.seen.items in
    let first = c.count-first.result in
    let found = c.expand_all.new.found in
    let all : AllFound h names (map f c.deref-3.result.now) (length c.deref-3.result.now) c.put_all-2.new.self c.new-2.result found.known found.ends =
    at_none _ _ c.in_default.is c.in_ok-number.ensures.all in
    let traced : AreTraced h names read first found =
    subst (λ (l : List (Vec ℕ Global)). AreTraced h names (map f l) first found) c.deref-3.ensures.value
    (at_none _ _ c.in_default.is c.in_ok-number.ensures.traced first
    (none_traced h names (map f c.deref-3.result.now) first c.new.result.items c.put_all-2.new.self c.new-3.result.items c.new-2.result c.new.ensures.items
    c.count-first.ensures c.new-3.ensures.items c.new-2.ensures)) in
    let led = all.0 in
    let ends = all.1 in
    let base : c.put_all-2.new.self ≡ put_all [] (read ++ seen) = base_is f c.new-known.result c.put_all.new.self c.put_all-2.new.self
    c.deref.result.now c.deref-2.result.now given.read.items given.seen.items c.new-known.ensures c.deref.ensures.value c.deref-2.ensures.value
    c.in_ok-put_all.ensures.ok c.in_ok-put_all-2.ensures.ok in
    let new : map f c.from-new.result.now ≡ fresh (read ++ seen) led =
    c.from-new.ensures ∙ fresh_is (read ++ seen) led c.put_all-2.new.self found.known first base c.count-first.ensures all.3 in
    let once : found.ends ≡ put_all [] ends = all.4 ∙ ap (λ (l : List (List ℕ)). put_all l ends) c.new-2.ensures in
    let told : map f c.from.result.now ≡ put_all [] ends = c.from.ensures ∙ once in
    let paired : ArePaired (LeadsTo h read) c.deref-4.result.now (map f c.from-new.result.now) =
    subst (λ (os : List Origin). ArePaired (LeadsTo h read) os (map f c.from-new.result.now)) (sym c.deref-4.ensures.value)
    (subst (ArePaired (LeadsTo h read) found.origins.items) (sym c.from-new.ensures) traced.0.1) in
    let lines : string_bytes c.in_ok-text.text ≡ end_lines (put_all [] ends) found.numbers.items =
    c.in_ok-text.ensures ∙ (ap (λ (l : List (List ℕ)). end_lines l c.deref-5.result.now) told
    ∙ ap (λ (l : List ℕ). end_lines (put_all [] ends) l) c.deref-5.ensures.value) in
    let counted : c.len.result ≡ length read = c.len.ensures ∙ (sym c.deref-3.ensures.len
    ∙ (ap length c.deref-3.ensures.value ∙ sym (length-map given.read.items f))) in
    let many : length c.from-new.result.now ≡ length (fresh (read ++ seen) led) =
    sym (length-map c.from-new.result.now f) ∙ ap length new in
    let counts : c.as_str.result.now ≡ counts_line (length read) (length (fresh (read ++ seen) led)) =
    c.as_str.ensures.value ∙ (c.in_ok-counts.ensures ∙ (ap (λ (n : ℕ). counts_line n (length c.from-new.result.now)) counted
    ∙ ap (counts_line (length read)) many)) in (
      fresh (read ++ seen) led,
      put_all [] ends,
      found.numbers.items,
      record {
        led = led;
        all = ends;
        found = subst (λ (n : ℕ). AreFound h names read n led ends) (sym (length-map given.read.items f))
            (subst (λ (l : List (Vec ℕ Global)). AreFound h names (map f l) (length l) led ends) c.deref-3.ensures.value all.2);
        new_is = refl;
        ends_are = refl;
      },
      subst (λ (l : List (List ℕ)). AreParts c.args.count l (map f c.in_ok-parts.parts.items)) new c.in_ok-parts.ensures,
      subst (λ (l : List (List ℕ)). AreOrigins h read c.args.count l (map f c.in_ok-origins.origins.items)) new
          (c.in_ok-origins.ensures h read paired),
      subst (ArePaired (EndsWith h names read) found.numbers.items) once traced.1.1,
      c.in_ok-push_str.ensures.bytes ∙ (ap (λ (l : List ℕ). l ++ c.as_str.result.now) lines
          ∙ ap (λ (l : List ℕ). end_lines (put_all [] ends) found.numbers.items ++ l) counts),
    )
