use Rattle.std.proofs.Common.{◌≡◌, ◌≤◌, length, take, List, ℕ, ◌∙◌, ap, sym, refl, inl, inr, map, Some, ◌∷◌, [], Bor, arith}
use Rattle.std.proofs.lemmas.List.{map-append, length-append, length-map, take_all}
use Rattle.csv.specs.Reading.{Reached, AreRecords, default_config, records}
use Rattle.csv.specs.Records.{fields_of}
use Rattle.csv.specs.declared.parser.State.TheVariants as st
use Rattle.csv.proofs.ReadFacts.{rows-end, rows-more}
use Rattle.qf_csv.specs.Records.{without_marks}
use Rattle.qf_csv.proofs.AllRecords.{records_are, records_front, front_few}
use Rattle.qf_csv.proofs.Marks.{marks_few}
use Rattle.qf_csv.proofs.Wants.{wants}
use Rattle.qf_csv.proofs.reading.read_first_records.Goals as goal

pub loop-row-init : goal.loop-row-init
unfolding Reached
loop-row-init c =
    let fr = c.from_reader-rdr.ensures in
    let f = c.flexible.ensures in
    let h = c.has_headers.ensures in
    let start = c.into_iter-row-iterator.ensures.into_iter_gives ∙ refl in
    let rdr = c.into_byte_records-row-items.ensures.rdr in
    let left = c.into_byte_records-row-items.ensures.left in
    let text = c.without_marks.ensures.none ∙ c.without_marks.ensures.rest in
    rw (start, rdr, c.new-rows.ensures.items) (
      rw (f, h) at fr.trim ∙ c.new.ensures.trim,
      inr (inr (rw (f, h) at fr.has_headers, fr.headers)),
      left,
      rw (f, h) at fr.config ∙ c.new.ensures.config,
      without_marks c.args.bytes.now,
      fr.source ∙ ap (λ t. Some t) text,
      (sym fr.state, refl),
      omega arith,
      rw f at fr.flexible,
    )

pub loop-row-preserved : goal.loop-row-preserved
loop-row-preserved c =
    let inv = c.loop-row.invariant in
    let s = rw (c.in-Some.is, c.in-Ok.is) at ((c.next.ensures.steps inv.2 inv.0).0 inv.1) in
    let flexible = rw (c.in-Some.is, c.in-Ok.is) at (c.next.ensures.steps inv.2 inv.0).3 in
    let items = c.in_ok-push.ensures.items in
    let longer = ap length items ∙ length-append c.loop-row.rows.items (c.in-Ok.row ∷ []) in
    let m = rows-more (λ (s : Bor (List ℕ)). Some s.now) c.loop-row.row-iterator.rdr c.next.new.self.rdr (fields_of c.in-Ok.row) default_config st.StartRecord (without_marks c.args.bytes.now) inv.4 (map fields_of c.loop-row.rows.items) inv.3 inv.5 inv.6 s.0 in
    (s.0.3 ∙ inv.0, inl s.1, s.2, s.0.2 ∙ inv.3, m.0, m.1, rw (items, map-append fields_of c.loop-row.rows.items (c.in-Ok.row ∷ [])) m.2, omega (arith, longer, inv.7), flexible ∙ inv.8)

pub wanting-requires : goal.wanting-requires
wanting-requires c =
    let inv = c.loop-row.invariant in
    let why = rw (c.in-Some.is, c.in-Err.is) at ((c.next.ensures.steps inv.2 inv.0).0 inv.1) in
    wants (λ (s : Bor (List ℕ)). Some s.now) c.loop-row.row-iterator.rdr c.next.new.self.rdr c.in-Err.error.kind inv.8 why

pub returns : goal.returns
returns c =
    let inv = c.loop-row.invariant in
    let s = rw c.in-None.is at ((c.next.ensures.steps inv.2 inv.0).0 inv.1) in
    let all : AreRecords default_config st.StartRecord (without_marks c.args.bytes.now) (map fields_of c.loop-row.rows.items) =
    (c.loop-row.row-iterator.rdr.state, inv.4, inv.6, rows-end (λ (s : Bor (List ℕ)). Some s.now) c.loop-row.row-iterator.rdr c.next.new.self.rdr [] default_config inv.4 inv.3 inv.5 s) in
    let text = without_marks c.args.bytes.now in
    let front = front_few text inv.4 c.loop-row.row-iterator.rdr.state (map fields_of c.loop-row.rows.items) inv.6 in
    let marks = marks_few c.args.bytes.now in
    let same = length-map c.loop-row.rows.items fields_of in
    let whole = records_are text (map fields_of c.loop-row.rows.items) all in
    let few : length (records default_config text) ≤ c.args.most = let l = ap length whole in omega (arith, l, same, inv.7) in
    record {
      records = whole ∙ sym (take_all c.args.most (records default_config text) few);
      few = omega (arith, same, front, marks);
    }

pub returns-then-len-most : goal.returns-then-len-most
returns-then-len-most c =
    let inv = c.loop-row.invariant in
    let text = without_marks c.args.bytes.now in
    let rows = map fields_of c.loop-row.rows.items in
    let same = length-map c.loop-row.rows.items fields_of in
    let front = front_few text inv.4 c.loop-row.row-iterator.rdr.state rows inv.6 in
    let marks = marks_few c.args.bytes.now in
    let full : length rows ≡ c.args.most = omega (arith, same) in
    record {
      records = sym (ap (λ (n : ℕ). take n (records default_config text)) (sym full) ∙ records_front text inv.4 c.loop-row.row-iterator.rdr.state rows inv.6);
      few = omega (arith, same, front, marks);
    }
