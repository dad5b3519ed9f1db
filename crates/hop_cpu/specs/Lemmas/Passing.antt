-- Passages of a CPU of the concurrent store follow each other.
use Rattle.std.proofs.Common.{ℕ, List, [], ◌++◌, refl, ap, sym, subst, ◌∙◌, append_assoc}
use Rattle.std.proofs.lemmas.List.{append-nil}
use Rattle.bpf_shared.specs.declared.events.Entry.{Entry}
use Rattle.bpf_shared.specs.History.{IsLegal, events_of}
use Rattle.bpf_shared.proofs.Chains.{events_of-append}
use Rattle.hop_words.specs.Inside.{Shown}
use Rattle.hop_map.specs.Noting.{CallsNote}
use Rattle.hop_map.specs.Lemmas.Notes.{none_note, notes-append}
use Rattle.hop_cpu.specs.Serving.{Serving}
use Rattle.hop_cpu.specs.Passing.{ExtendsHistory}

pub nothing : (x : Serving) → ExtendsHistory x x []
nothing x = record {
  table = refl;
  cpu = refl;
  seen = sym (append-nil x.port.known.seen);
  legal = λ l. l;
  noted = none_note x.table.about x.port.known;
}

pub follows : (x y z : Serving) (xs ys : List Entry)
    → ExtendsHistory x y xs → ExtendsHistory y z ys → ExtendsHistory x z (xs ++ ys)
follows x y z xs ys a b = record {
  table = b.table ∙ a.table;
  cpu = b.cpu ∙ a.cpu;
  seen = b.seen
      ∙ (ap (λ (l : List Entry). l ++ ys) a.seen ∙ append_assoc x.port.known.seen xs ys);
  legal = λ l. subst (λ (t : Shown). IsLegal t.about.shape y.port.known.seen
      → IsLegal t.about.shape z.port.known.seen) a.table b.legal (a.legal l);
  noted = both;
}
  where
    c : ℕ
    c = x.port.known.cpu

    later : CallsNote x.table.about (events_of c ys) y.port.known z.port.known
    later = subst (λ (t : Shown). CallsNote t.about (events_of c ys) y.port.known z.port.known)
        a.table (subst (λ (k : ℕ). CallsNote y.table.about (events_of k ys) y.port.known
        z.port.known) a.cpu b.noted)

    both : CallsNote x.table.about (events_of c (xs ++ ys)) x.port.known z.port.known
    both = subst (λ es. CallsNote x.table.about es x.port.known z.port.known)
        (sym (events_of-append c xs ys))
        (notes-append x.table.about (events_of c xs) (events_of c ys) x.port.known y.port.known
        z.port.known a.noted later)
