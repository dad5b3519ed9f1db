use Rattle.std.proofs.Common.{◌≡◌, sym, ◌∙◌, ⊎_elim}
use Rattle.std.proofs.lemmas.Bool.{cases_eq}
use Rattle.hop_map.proofs.Peeking.{finds}
use Rattle.hop_map.proofs.Onces.{asks_there, begun, home_there, disturbed_last, found_once, read_stamp, reads_once, walked_home, way_of}
use Rattle.hop_map.proofs.Loads.{loads_found, loads_last}
use Rattle.hop_map.proofs.finding.read_segment.Goals as goal

pub new-words-requires : goal.new-words-requires
new-words-requires c =
    let (l, asks, walked) = c.requires.begins in
    let a = c.args.table.now.about in
    let m = c.args.from.map in
    let key = c.args.key.now in
    let h = c.args.at.home in
    let s = c.args.from.segment in
    let n = c.args.from.stamp in
    let is = c.requires.homed.home in
    let way = way_of a m s h key walked.way is walked.is_way in
    let free = walked.free c.requires.even in
    record {
      fits = record {
        seated = c.requires.table;
        keyed = c.requires.homed.key_size;
        small = c.requires.homed.small;
        counted = c.requires.homed.elements;
        inside = walked.inside;
        reading = begun a l m s n key asks walked.way way (walked_home a m s n h key is free.1) c.args.lane.known free.0;
      };
    }

pub see_again-lane-requires : goal.see_again-lane-requires
see_again-lane-requires c =
    let (l, asks, walked) = c.requires.begins in
    let a = c.args.table.now.about in
    let m = c.args.from.map in
    let key = c.args.key.now in
    let h = c.args.at.home in
    let s = c.args.from.segment in
    let n = c.args.from.stamp in
    let is = c.requires.homed.home in
    let way = way_of a m s h key walked.way is walked.is_way in
    let free = walked.free c.requires.even in
    let home = walked_home a m s n h key is free.1 in
    let x = c.new-words in
    let y = c.find-found.new.words in
    let b = asks_there a l m s n key asks walked.way way home c.args.lane.known free.0 x.result y x.ensures.about x.ensures.known
    x.ensures.map x.ensures.segment c.find-found.ensures.rests in
    let i = home_there a l m s n key asks walked.way way home c.args.lane.known free.0 x.result y x.ensures.about x.ensures.known
    x.ensures.map x.ensures.segment c.find-found.ensures.rests h is in
    record { finds = finds y key c.find-found.result b h i c.find-found.ensures.found }

pub returns-clause-same : goal.returns-clause-same
returns-clause-same c = λ l asks walked same.
    let a = c.args.table.now.about in
    let m = c.args.from.map in
    let key = c.args.key.now in
    let h = c.args.at.home in
    let s = c.args.from.segment in
    let n = c.args.from.stamp in
    let is = c.requires.homed.home in
    let way = way_of a m s h key walked.way is walked.is_way in
    let free = walked.free c.requires.even in
    let home = walked_home a m s n h key is free.1 in
    let x = c.new-words in
    let y = c.find-found.new.words in
    let l3 = c.see_again-lane.result.0.known in (
      found_once a l m s n key asks walked.way way home c.args.lane.known free.0 x.result y x.ensures.about x.ensures.known x.ensures.map
          x.ensures.segment c.find-found.ensures.rests c.find-found.result c.see_again-lane.result.1 l3 c.see_again-lane.ensures.seen same,
      reads_once a l m s n key asks walked.way way home c.args.lane.known free.0 x.result y x.ensures.about x.ensures.known x.ensures.map
          x.ensures.segment c.find-found.ensures.rests c.find-found.result c.see_again-lane.result.1 l3 c.see_again-lane.ensures.seen same
          c.requires.even,
    )

pub returns-clause-other : goal.returns-clause-other
returns-clause-other c = λ l asks walked ne.
    let a = c.args.table.now.about in
    let m = c.args.from.map in
    let key = c.args.key.now in
    let h = c.args.at.home in
    let s = c.args.from.segment in
    let n = c.args.from.stamp in
    let is = c.requires.homed.home in
    let way = way_of a m s h key walked.way is walked.is_way in
    let free = walked.free c.requires.even in
    let home = walked_home a m s n h key is free.1 in
    let x = c.new-words in
    let y = c.find-found.new.words in
    let l3 = c.see_again-lane.result.0.known in
    disturbed_last a l m s n key asks walked.way way home c.args.lane.known free.0 x.result y x.ensures.about x.ensures.known x.ensures.map
    x.ensures.segment c.find-found.ensures.rests c.find-found.result c.see_again-lane.result.1 l3 c.see_again-lane.ensures.seen ne

pub returns-clause-loads : goal.returns-clause-loads
returns-clause-loads c = λ l asks walked.
    let a = c.args.table.now.about in
    let m = c.args.from.map in
    let key = c.args.key.now in
    let h = c.args.at.home in
    let s = c.args.from.segment in
    let n = c.args.from.stamp in
    let is = c.requires.homed.home in
    let way = way_of a m s h key walked.way is walked.is_way in
    let free = walked.free c.requires.even in
    let home = walked_home a m s n h key is free.1 in
    let x = c.new-words in
    let y = c.find-found.new.words in
    let l3 = c.see_again-lane.result.0.known in
    let stamp = read_stamp a l m s n key asks walked.way way home c.args.lane.known free.0 x.result y x.ensures.about x.ensures.known
    x.ensures.map x.ensures.segment c.find-found.ensures.rests in
    ⊎_elim
    (λ (same : c.see_again-lane.result.1 ≡ n). loads_found a l m h s n c.args.lane.known walked c.requires.even x.result y x.ensures.about
    x.ensures.known x.ensures.map c.find-found.ensures.rests c.find-found.ensures.reads key c.find-found.result
    c.see_again-lane.result.1 l3 c.see_again-lane.ensures.seen (same ∙ sym stamp))
    (λ ne. loads_last a l m h s n c.args.lane.known walked c.requires.even x.result y x.ensures.about x.ensures.known x.ensures.map
    c.find-found.ensures.rests c.find-found.ensures.reads key c.find-found.result c.see_again-lane.result.1 l3
    c.see_again-lane.ensures.seen (λ e. ne (e ∙ stamp)))
    (cases_eq c.see_again-lane.result.1 n)
