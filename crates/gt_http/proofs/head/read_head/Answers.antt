use Rattle.gt_http.proofs.BodyLemmas.{head_at, one_taken}
use Rattle.gt_http.proofs.PlaceLemmas.{IsSoFar, kept, nothing_has_none, nothing_so_far, so_far}
use Rattle.gt_http.proofs.head.read_head.Goals as goal
use Rattle.gt_http.proofs.head.read_head.Goals.{else-is_due, then-is_due+in-Ok-Partial}
use Rattle.gt_http.specs.Head.{most_head_bytes}
use Rattle.gt_http.specs.Place.{is_due, place_after}
use Rattle.gt_http.specs.declared.place.Place.{Place}
use Rattle.gt_http.specs.declared.place.Place.TheVariants.{Blank}
use Rattle.gt_streams.specs.Streams.{IsSameSource}
use Rattle.httparse.specs.Grammar.{HasNoRequest, MayBecomeRequest}
use Rattle.httparse.specs.Spans.{IsRequestOf, IsRequestWithin, RequestExceeds, RequestOverflows}
use Rattle.std.proofs.Common.{IsTrue, List, [], ap, arith, false, inl, inr, length, length-append, refl, rules, subst, sym, ℕ, ◌++◌, ◌<◌, ◌∙◌, ◌∷◌, ◌≡◌, ◌≤◌}
use Rattle.std.proofs.lemmas.List.{nil_from_length}

pub head-init : goal.head-init
head-init g c =
    let empty : c.in-Ok.bytes.items ≡ [] = c.in-Ok.ensures.items in
    record {
      same = search rules;
      room = c.requires.room;
      size = omega (arith, ap (length {A = ℕ}) empty);
      capacity = c.in-Ok.ensures.exact;
      none = subst HasNoRequest (sym empty) nothing_has_none;
      blank = subst (IsSoFar Blank) (sym empty) nothing_so_far;
      left = λ told. sym (ap (λ t. t ++ g.S.Source.words.left c.args.source.now) empty);
    }

pub returns-in-Fault-clause-told : goal.returns-in-Fault-clause-told
returns-in-Fault-clause-told g c told =
    let now = subst IsTrue (sym c.head.invariant.same.told) told in
    record {
      taken = c.head.bytes.items;
      left = c.head.invariant.left told ∙ ap (λ t. c.head.bytes.items ++ t) (sym (c.in-Fault.ensures.told now));
      means = inl c.head.invariant.none;
    }

pub returns-then-is_empty-clause-told : goal.returns-then-is_empty-clause-told
returns-then-is_empty-clause-told g c told =
    let now = subst IsTrue (sym c.head.invariant.same.told) told in
    let after = (c.in-End.ensures.told now).1 in
    let empty : c.head.bytes.items ≡ [] = nil_from_length _ (search rules) in
    record {
      taken = c.head.bytes.items;
      left = c.head.invariant.left told ∙ ap (λ t. c.head.bytes.items ++ t) ((c.in-End.ensures.told now).0 ∙ sym after);
      means = (empty, after);
    }

pub returns-then-not-is_open-clause-told : goal.returns-then-not-is_open-clause-told
returns-then-not-is_open-clause-told g c told =
    let now = subst IsTrue (sym c.head.invariant.same.told) told in
    let over = subst (λ (s : List ℕ). RequestOverflows 64 s) c.as_slice-taken.ensures.value (c.is_open.ensures.err c.if-not-is_open.true) in
    record {
      taken = c.head.bytes.items;
      left = c.head.invariant.left told ∙ ap (λ t. c.head.bytes.items ++ t) ((c.in-End.ensures.told now).0 ∙ sym (c.in-End.ensures.told now).1);
      means = inl over;
    }

pub returns-in-End-clause-told : goal.returns-in-End-clause-told
returns-in-End-clause-told g c told =
    let now = subst IsTrue (sym c.head.invariant.same.told) told in
    let after = (c.in-End.ensures.told now).1 in
    let more = subst (λ (s : List ℕ). MayBecomeRequest s) c.as_slice-taken.ensures.value (c.is_open.ensures.ok c.if-not-is_open.false) in
    let few = subst (λ (s : List ℕ). ¬ (RequestExceeds 64 s)) c.as_slice-taken.ensures.value (c.is_open.ensures.few c.if-not-is_open.false) in
    let short : length c.head.bytes.items < most_head_bytes = search rules in
    let some : 0 < length c.head.bytes.items = search rules in
    record {
      taken = c.head.bytes.items;
      left = c.head.invariant.left told ∙ ap (λ t. c.head.bytes.items ++ t) ((c.in-End.ensures.told now).0 ∙ sym after);
      means = (
        after,
        inl (record {
          have_is = search rules;
          want_is = refl;
          some = search rules;
          short = search rules;
          none = c.head.invariant.none;
          open_end = more;
          few = few;
        }),
      );
    }

pub returns-in-Ok-Complete-clause-ok : goal.returns-in-Ok-Complete-clause-ok
returns-in-Ok-Complete-clause-ok g c =
    let spans = c.in-Ok-Complete.spans in
    let buf = c.head.bytes.items in
    let bytes = c.push_reserved.new.self.items in
    let headers = c.parse_request.new.headers in
    let pushed : bytes ≡ buf ++ c.in-Byte.byte ∷ [] = c.push_reserved.ensures.items in
    let same : c.as_slice-then-is_due.result.now ≡ bytes = c.as_slice-then-is_due.ensures.value in
    let found : IsRequestOf c.as_slice-then-is_due.result.now headers spans = rw c.in-Ok-Complete.field-0-is at c.in-Ok-Complete.ensures.complete in
    let within : IsRequestWithin c.as_slice-then-is_due.result.now headers spans = rw c.in-Ok-Complete.field-0-is at c.in-Ok-Complete.ensures.within in
    let short : length bytes ≤ most_head_bytes = omega (arith, ap (length {A = ℕ}) pushed, length-append buf (c.in-Byte.byte ∷ [])) in
    head_at buf bytes c.in-Byte.byte headers spans c.head.invariant.none pushed short (search rules)
    (subst (λ (s : List ℕ). IsRequestOf s headers spans) same found) (subst (λ (s : List ℕ). IsRequestWithin s headers spans) same within)

pub returns-in-Ok-Complete-clause-told : goal.returns-in-Ok-Complete-clause-told
returns-in-Ok-Complete-clause-told g c told =
    let now = subst IsTrue (sym c.head.invariant.same.told) told in
    record {
      taken = c.push_reserved.new.self.items;
      left = one_taken (g.S.Source.words.left c.args.source.now) c.head.bytes.items (g.S.Source.words.left c.head.source) c.in-Byte.byte (g.S.Source.words.left c.read_byte.new.source) (c.head.invariant.left told) (c.in-Byte.ensures.told now)
          ∙ ap (λ t. t ++ g.S.Source.words.left c.read_byte.new.source) (sym {A = List ℕ} c.push_reserved.ensures.items);
      means = refl;
    }

pub returns-in-Err-clause-told : goal.returns-in-Err-clause-told
returns-in-Err-clause-told g c told =
    let now = subst IsTrue (sym c.head.invariant.same.told) told in
    let over : RequestOverflows 64 c.as_slice-then-is_due.result.now = search rules in
    record {
      taken = c.push_reserved.new.self.items;
      left = one_taken (g.S.Source.words.left c.args.source.now) c.head.bytes.items (g.S.Source.words.left c.head.source) c.in-Byte.byte (g.S.Source.words.left c.read_byte.new.source) (c.head.invariant.left told) (c.in-Byte.ensures.told now)
          ∙ ap (λ t. t ++ g.S.Source.words.left c.read_byte.new.source) (sym {A = List ℕ} c.push_reserved.ensures.items);
      means = inl (subst (λ (s : List ℕ). RequestOverflows 64 s) c.as_slice-then-is_due.ensures.value over);
    }

pub returns-clause-told : goal.returns-clause-told
returns-clause-told g c told =
    let full : length c.head.bytes.items ≡ most_head_bytes = omega arith in
    record {
      taken = c.head.bytes.items;
      left = c.head.invariant.left told;
      means = inr (inl (record { full = full; none = c.head.invariant.none }));
    }

pub head-preserved : goal.head-preserved
head-preserved g c =
    let buf = c.head.bytes.items in
    let b = c.in-Byte.byte in
    let bytes = c.push_reserved.new.self.items in
    let pushed : bytes ≡ buf ++ b ∷ [] = c.push_reserved.ensures.items in
    let same : IsSameSource g.S.Source.words c.args.source.now c.read_byte.new.source = search rules in
    let size : length bytes ≤ most_head_bytes = omega (arith, ap (length {A = ℕ}) pushed, length-append buf (b ∷ [])) in
    let blank : IsSoFar c.after-next.result bytes =
    subst (λ (p : Place). IsSoFar p bytes) (sym c.after-next.ensures) (subst (IsSoFar (place_after c.head.place b)) (sym pushed) (so_far c.head.place buf b c.head.invariant.blank)) in
    let left : IsTrue (g.S.Source.words.told c.args.source.now) → g.S.Source.words.left c.args.source.now ≡ bytes ++ g.S.Source.words.left c.read_byte.new.source =
    λ told.
    let now = subst IsTrue (sym c.head.invariant.same.told) told in
    one_taken (g.S.Source.words.left c.args.source.now) buf (g.S.Source.words.left c.head.source) b (g.S.Source.words.left c.read_byte.new.source) (c.head.invariant.left told) (c.in-Byte.ensures.told now)
    ∙ ap (λ t. t ++ g.S.Source.words.left c.read_byte.new.source) (sym pushed) in
    elim c.if-is_due.branch [
      | then-is_due+in-Ok-Partial w ↦ record {
        same = same;
        room = search rules;
        size = size;
        capacity = search rules;
        none = subst HasNoRequest w.as_slice-then-is_due.ensures.value (rw w.in-Ok-Partial.field-0-is at w.in-Ok-Partial.ensures.partial);
        blank = blank;
        left = left;
      }
      | else-is_due w ↦
          let idle : is_due c.head.place b (buf ++ b ∷ []) ≡ false = search (rules, pushed) in
          record {
            same = same;
            room = search rules;
            size = size;
            capacity = search rules;
            none = subst HasNoRequest (sym pushed) (kept c.head.place buf b c.head.invariant.none c.head.invariant.blank idle);
            blank = blank;
            left = left;
          }
    ]
