-- Flows that are printed and saved, one behind the other.
use Rattle.std.proofs.Common.{◌≡◌, ◌≤◌, ℕ, List, [], ◌∷◌, ◌++◌, length, take, drop, map, Option, Some, None, Result, Ok, Err, IsErr, Vec, le_refl, le_trans, refl, sym, ap, ◌∙◌, subst, append_assoc}
use Rattle.std.specs.List.{flat_map}
use Rattle.std.proofs.lemmas.List.{append-nil, map-append, take-map, take-append-drop}
use Rattle.std.proofs.lemmas.Grind.{flat_map-append}
use Rattle.std.proofs.Math.Seq.{take-append_seam}
use Rattle.px_text.specs.Prefix.{IsPrefixOf}
use Rattle.px_text.specs.declared.no_memory.NoMemory.{NoMemory}
use Rattle.px_message.specs.declared.flow.Flow.{Flow}
use Rattle.px_outside.specs.Sink.{Writes, WritesPart}
use Rattle.px_core.specs.Answers.{FilesMeaning}
use Rattle.px_core.proofs.RunLemmas.{front_next}
use Rattle.px_view.specs.Line.{flow_line}
use Rattle.px_app.specs.Printed.{Has}
use Rattle.px_app.specs.Saved.{SavesTo, pieces_of, saved, Appending, none_made, one_made, BrokeAppending, broke_elsewhere, broke_at, AppendsBy, StopsAt, at_line, at_text, HasStopped, Came, Broke, CameOrBroke, Puts, CameOfAppend, MadeOf, Saves, texts_in, KeepsCounts, ArePut, all_put, last_lost}
use Rattle.px_words.specs.Appends.{Piece, piece_at, Append, put, lost, piece_in, IsPut, IsLost, IsKept, IsMade}
use Rattle.px_app.specs.declared.printing.Printing.{Printing}
use Rattle.px_app.specs.declared.printing.Printing.TheVariants.{Whole, Failed}
use Rattle.px_words.proofs.PrintLemmas.{writes_none, writes_more, writes_part, whole_part, part_longer}

-- the lines of flows, those of others behind them
lines_more : (prefix more : List Flow) → flat_map flow_line (prefix ++ more) ≡ flat_map flow_line prefix ++ flat_map flow_line more
lines_more prefix more = flat_map-append flow_line prefix more

lines_one : (prefix : List Flow) (flow : Flow) → flat_map flow_line (prefix ++ flow ∷ []) ≡ flat_map flow_line prefix ++ flow_line flow
lines_one prefix flow = lines_more prefix (flow ∷ []) ∙ ap (λ l. flat_map flow_line prefix ++ l) (append-nil (flow_line flow))

-- the pieces of flows, those of others behind them
saved_more : (to : Option SavesTo) (prefix more : List Flow) → saved to (prefix ++ more) ≡ saved to prefix ++ saved to more
saved_more to prefix more = flat_map-append (pieces_of to) prefix more

saved_one : (to : Option SavesTo) (prefix : List Flow) (flow : Flow) → saved to (prefix ++ flow ∷ []) ≡ saved to prefix ++ pieces_of to flow
saved_one to prefix flow = saved_more to prefix (flow ∷ []) ∙ ap (λ l. saved to prefix ++ l) (append-nil (pieces_of to flow))

put_more : (to : Option SavesTo) (prefix more : List Flow) → map put (saved to (prefix ++ more)) ≡ map put (saved to prefix) ++ map put (saved to more)
put_more to prefix more = ap (map put) (saved_more to prefix more) ∙ map-append put (saved to prefix) (saved to more)

put_one : (to : Option SavesTo) (prefix : List Flow) (flow : Flow) → map put (saved to (prefix ++ flow ∷ [])) ≡ map put (saved to prefix) ++ map put (pieces_of to flow)
put_one to prefix flow = ap (map put) (saved_one to prefix flow) ∙ map-append put (saved to prefix) (pieces_of to flow)

--- appends behind appends
pub appends_more : (to : Option SavesTo) (first : FilesMeaning) (made : List Append) (mid : FilesMeaning) (more : List Append) (last : FilesMeaning) →
    Appending to first made mid → Appending to mid more last → Appending to first (made ++ more) last
appends_more to first made mid more last before none_made =
    let P : List Append → Type 0 = λ l. Appending to first l mid in
    subst P (sym (append-nil made)) before
appends_more to first made mid more last before (one_made so_far next one flow old new behind piece is grown) =
    one_made (made ++ so_far) (made ++ next) one flow old new (appends_more to first made mid so_far old before behind) piece is
    (ap (λ l. made ++ l) grown ∙ sym (append_assoc made so_far (one ∷ [])))

-- appends behind appends, where memory ran out
broke_behind : (to : Option SavesTo) (first : FilesMeaning) (made : List Append) (mid : FilesMeaning) (more : List Append) (last : FilesMeaning) →
    Appending to first made mid → BrokeAppending to mid more last → BrokeAppending to first (made ++ more) last
broke_behind to first made mid more last before (broke_elsewhere behind) = broke_elsewhere (appends_more to first made mid more last before behind)
broke_behind to first made mid more last before (broke_at old piece flow behind is kept) = broke_at old piece flow (appends_more to first made mid more old before behind) is kept

pub appends_by_more : (result : Result Printing NoMemory) (to : Option SavesTo) (first : FilesMeaning) (made : List Append) (mid : FilesMeaning) (more : List Append) (last : FilesMeaning) →
    Appending to first made mid → AppendsBy result to mid more last → AppendsBy result to first (made ++ more) last
appends_by_more (Ok printing) to first made mid more last before behind = appends_more to first made mid more last before behind
appends_by_more (Err e) to first made mid more last before behind = broke_behind to first made mid more last before behind

-- one append
pub append_one : (to : Option SavesTo) (old new : FilesMeaning) (piece : Piece) (flow : Flow) → pieces_of to flow ≡ piece ∷ [] → IsPut piece old new → Appending to old (put piece ∷ []) new
append_one to old new piece flow is put_so = one_made [] (put piece ∷ []) (put piece) flow old new none_made is put_so refl

pub append_lost : (to : Option SavesTo) (old new : FilesMeaning) (piece : Piece) (flow : Flow) → pieces_of to flow ≡ piece ∷ [] → IsLost piece old new → Appending to old (lost piece ∷ []) new
append_lost to old new piece flow is lost_so = one_made [] (lost piece ∷ []) (lost piece) flow old new none_made is lost_so refl

pub append_kept : (to : Option SavesTo) (old new : FilesMeaning) (piece : Piece) (flow : Flow) → pieces_of to flow ≡ piece ∷ [] → IsKept old new → BrokeAppending to old [] new
append_kept to old new piece flow is kept = broke_at old piece flow none_made is kept

-- a flow of which nothing is to be put
pub saves_none : (to : Option SavesTo) (flow : Flow) (files : FilesMeaning) → pieces_of to flow ≡ [] → Saves to flow (Ok Whole) files files
saves_none to flow files is = record { made = []; appends = none_made; gives = ap (map put) (sym is) }

-- out of memory before any append
pub saves_broke : (to : Option SavesTo) (flow : Flow) (e : NoMemory) (files : FilesMeaning) → Saves to flow (Err e) files files
saves_broke to flow e files = record { made = []; appends = broke_elsewhere none_made; gives = refl }

-- a flow of which one piece is to be put
pub saves_one : (to : Option SavesTo) (flow : Flow) (piece : Piece) (result : Result Printing NoMemory) (old new : FilesMeaning) → pieces_of to flow ≡ piece ∷ [] →
    CameOfAppend result piece old new → Saves to flow result old new
saves_one to flow piece (Ok Whole) old new is came = record { made = put piece ∷ []; appends = append_one to old new piece flow is came; gives = ap (map put) (sym is) }
saves_one to flow piece (Ok Failed) old new is came = record { made = lost piece ∷ []; appends = append_lost to old new piece flow is came; gives = (piece, is, refl) }
saves_one to flow piece (Err e) old new is came = record { made = []; appends = append_kept to old new piece flow is came; gives = refl }

-- the pieces of a flow, by the text that is given
pub pieces_some : {A : Type 0} (pieces : List Piece) (path place bytes : List ℕ) (given : Option (Vec ℕ A)) (text : Vec ℕ A) → pieces ≡ map (piece_at path) (texts_in given) → given ≡ Some text →
    place ≡ path → bytes ≡ text.items → pieces ≡ piece_at place bytes ∷ []
pieces_some pieces path place bytes given text is some at_place of_text =
    is ∙ (ap (λ o. map (piece_at path) (texts_in o)) some
    ∙ (ap (λ l. piece_at l text.items ∷ []) (sym at_place) ∙ ap (λ l. piece_at place l ∷ []) (sym of_text)))

pub pieces_none : {A : Type 0} (pieces : List Piece) (path : List ℕ) (given : Option (Vec ℕ A)) → pieces ≡ map (piece_at path) (texts_in given) → given ≡ None → pieces ≡ []
pieces_none pieces path given is none = is ∙ ap (λ o. map (piece_at path) (texts_in o)) none

-- what stopped stopped within more flows too
stopped_more : (to : Option SavesTo) (prefix more : List Flow) (start now : Option (List ℕ)) (made : List Append) → HasStopped to prefix start now made → HasStopped to (prefix ++ more) start now made
stopped_more to prefix more start now made stopped = record {
  prefix = stopped.prefix;
  flow = stopped.flow;
  rest = stopped.rest ++ more;
  split = ap (λ l. l ++ more) stopped.split ∙ append_assoc stopped.prefix (stopped.flow ∷ stopped.rest) more;
  stops = stopped.stops;
}

prefix_more : {A : Type 0} (part all more longer : List A) → longer ≡ all ++ more → IsPrefixOf part all → IsPrefixOf part longer
prefix_more part all more longer is (rest, whole) = (rest ++ more, is ∙ (ap (λ l. l ++ more) whole ∙ append_assoc part rest more))

lines_part : (prefix more : List Flow) (start now : Option (List ℕ)) → WritesPart (flat_map flow_line prefix) start now → WritesPart (flat_map flow_line (prefix ++ more)) start now
lines_part prefix more start now part =
    let P : List ℕ → Type 0 = λ l. WritesPart l start now in
    subst P (sym (lines_more prefix more)) (part_longer (flat_map flow_line prefix) (flat_map flow_line more) start now part)

broke_more : (to : Option SavesTo) (prefix more : List Flow) (start now : Option (List ℕ)) (made : List Append) → Broke to prefix start now made → Broke to (prefix ++ more) start now made
broke_more to prefix more start now made broke = record {
  printed = lines_part prefix more start now broke.printed;
  put_so_far = prefix_more made (map put (saved to prefix)) (map put (saved to more)) (map put (saved to (prefix ++ more))) (put_more to prefix more) broke.put_so_far;
}

-- answers that differ
abbrev pub SameResult : Result Printing NoMemory → Result Printing NoMemory → Type 0
SameResult a b = a ≡ b

pub same_printing : (a b : Printing) → SameResult (Ok a) (Ok b) → a ≡ b
same_printing a b e = cc

pub not_ok : (e : NoMemory) (printing : Printing) → Err e ≡ Ok printing → ⊥
not_ok e printing same = cc

pub whole_failed : Whole ≡ Failed → ⊥
whole_failed e = cc

-- no flow
pub puts_none : (to : Option SavesTo) (was : Printing) (files : FilesMeaning) (sink : Option (List ℕ)) → Puts to was [] (Ok was) files files sink sink
puts_none to was files sink = record {
  made = [];
  appends = none_made;
  goes = λ start earlier made_before came.
      let P : List Flow → Type 0 = λ l. Came was to l start sink (made_before ++ []) in
      let Q : List Append → Type 0 = λ l. Came was to earlier start sink l in
      subst P (sym (append-nil earlier)) (subst Q (sym (append-nil made_before)) came);
  still = λ failed. (ap Ok failed, refl, refl, refl);
}

--- flows behind flows
pub puts_more : (to : Option SavesTo) (was mid : Printing) (prefix more : List Flow) (result : Result Printing NoMemory) (old between new : FilesMeaning) (before half after : Option (List ℕ)) →
    Puts to was prefix (Ok mid) old between before half → Puts to mid more result between new half after → Puts to was (prefix ++ more) result old new before after
puts_more to was mid prefix more result old between new before half after first next = record {
  made = first.made ++ next.made;
  appends = appends_by_more result to old first.made between next.made new first.appends next.appends;
  goes = λ start earlier made_before came.
      let P : List Flow → Type 0 = λ l. CameOrBroke result to l start after (made_before ++ (first.made ++ next.made)) in
      let Q : List Append → Type 0 = λ l. CameOrBroke result to ((earlier ++ prefix) ++ more) start after l in
      subst P (append_assoc earlier prefix more) (subst Q (append_assoc made_before first.made next.made)
      (next.goes start (earlier ++ prefix) (made_before ++ first.made) (first.goes start earlier made_before came)));
  still = λ failed.
      let a = first.still failed in
      let b = next.still (same_printing mid Failed a.0) in
      (b.0, ap (λ l. l ++ next.made) a.1 ∙ b.1, b.2 ∙ a.2, b.3 ∙ a.3);
}

--- where memory ran out, more flows change nothing
pub puts_broke : (to : Option SavesTo) (was : Printing) (prefix more : List Flow) (e : NoMemory) (old new : FilesMeaning) (before after : Option (List ℕ)) →
    Puts to was prefix (Err e) old new before after → Puts to was (prefix ++ more) (Err e) old new before after
puts_broke to was prefix more e old new before after first = record {
  made = first.made;
  appends = first.appends;
  goes = λ start earlier made_before came.
      let P : List Flow → Type 0 = λ l. Broke to l start after (made_before ++ first.made) in
      subst P (append_assoc earlier prefix more) (broke_more to (earlier ++ prefix) more start after (made_before ++ first.made) (first.goes start earlier made_before came));
  still = λ failed. absurd (not_ok e Failed (first.still failed).0);
}

-- one flow, where a write or an append failed before
pub puts_after_failure : (to : Option SavesTo) (was : Printing) (flow : Flow) (files : FilesMeaning) (sink : Option (List ℕ)) → was ≡ Failed → Puts to was (flow ∷ []) (Ok Failed) files files sink sink
puts_after_failure to was flow files sink failed = record {
  made = [];
  appends = none_made;
  goes = λ start earlier made_before came.
      let P : Printing → Type 0 = λ p. Came p to earlier start sink made_before in
      let Q : List Append → Type 0 = λ l. HasStopped to (earlier ++ flow ∷ []) start sink l in
      subst Q (sym (append-nil made_before)) (stopped_more to earlier (flow ∷ []) start sink made_before (subst P failed came));
  still = λ _. (refl, refl, refl, refl);
}

-- one flow, whose line was printed in part
pub puts_line_failed : (to : Option SavesTo) (flow : Flow) (files : FilesMeaning) (before after : Option (List ℕ)) → WritesPart (flow_line flow) before after →
    Puts to Whole (flow ∷ []) (Ok Failed) files files before after
puts_line_failed to flow files before after part = record {
  made = [];
  appends = none_made;
  goes = λ start earlier made_before came. record {
    prefix = earlier;
    flow = flow;
    rest = [];
    split = refl;
    stops = at_line before came.0 part (append-nil made_before ∙ came.1);
  };
  still = λ failed. absurd (whole_failed failed);
}

-- what printing one text says of it, all of which was printed, or a part
pub line_whole : (printing : Printing) (text : List ℕ) (old new : Option (List ℕ)) → printing ≡ Whole →
    ((start : Option (List ℕ)) (before : List ℕ) → Has Whole before start old → Has printing (before ++ text) start new) → Writes text old new
line_whole printing text old new is prints =
    let P : Printing → Type 0 = λ p. Has p text old new in
    subst P is (prints old [] (writes_none old old refl))

pub line_failed : (printing : Printing) (text : List ℕ) (old new : Option (List ℕ)) → printing ≡ Failed →
    ((start : Option (List ℕ)) (before : List ℕ) → Has Whole before start old → Has printing (before ++ text) start new) → WritesPart text old new
line_failed printing text old new is prints =
    let P : Printing → Type 0 = λ p. Has p text old new in
    subst P is (prints old [] (writes_none old old refl))

-- one flow, where memory ran out before its line
pub puts_line_broke : (to : Option SavesTo) (flow : Flow) (e : NoMemory) (files : FilesMeaning) (before after : Option (List ℕ)) → after ≡ before →
    Puts to Whole (flow ∷ []) (Err e) files files before after
puts_line_broke to flow e files before after same = record {
  made = [];
  appends = broke_elsewhere none_made;
  goes = λ start earlier made_before came.
      let P : Option (List ℕ) → Type 0 = λ o. Broke to (earlier ++ flow ∷ []) start o (made_before ++ []) in
      subst P (sym same) (broke_more to earlier (flow ∷ []) start before (made_before ++ []) (record {
        printed = whole_part (flat_map flow_line earlier) start before came.0;
        put_so_far = ([], sym came.1 ∙ (sym (append-nil made_before) ∙ sym (append-nil (made_before ++ []))));
      }));
  still = λ failed. absurd (whole_failed failed);
}

-- the line of one flow more
line_behind : (earlier : List Flow) (flow : Flow) (start before after : Option (List ℕ)) → Writes (flat_map flow_line earlier) start before → Writes (flow_line flow) before after →
    Writes (flat_map flow_line (earlier ++ flow ∷ [])) start after
line_behind earlier flow start before after so_far line =
    let P : List ℕ → Type 0 = λ l. Writes l start after in
    subst P (sym (lines_one earlier flow)) (writes_more (flat_map flow_line earlier) (flow_line flow) start before after so_far line)

-- one flow, whose line was printed and which was then saved so
flow_goes : (to : Option SavesTo) (flow : Flow) (result : Result Printing NoMemory) (made : List Append) (before after : Option (List ℕ)) → Writes (flow_line flow) before after →
    MadeOf result (pieces_of to flow) made → (start : Option (List ℕ)) (earlier : List Flow) (made_before : List Append) → Came Whole to earlier start before made_before →
    CameOrBroke result to (earlier ++ flow ∷ []) start after (made_before ++ made)
flow_goes to flow (Ok Whole) made before after line gives start earlier made_before came = (
  line_behind earlier flow start before after came.0 line,
  ap (λ l. l ++ made) came.1 ∙ (ap (λ l. map put (saved to earlier) ++ l) gives ∙ sym (put_one to earlier flow)),
)
flow_goes to flow (Ok Failed) made before after line gives start earlier made_before came = record {
  prefix = earlier;
  flow = flow;
  rest = [];
  split = refl;
  stops = at_text gives.0 (line_behind earlier flow start before after came.0 line) gives.1
      (ap (λ l. l ++ made) came.1 ∙ ap (λ l. map put (saved to earlier) ++ l) gives.2);
}
flow_goes to flow (Err e) made before after line gives start earlier made_before came = record {
  printed = whole_part (flat_map flow_line (earlier ++ flow ∷ [])) start after (line_behind earlier flow start before after came.0 line);
  put_so_far = (
    map put (pieces_of to flow),
    put_one to earlier flow ∙ ap (λ l. l ++ map put (pieces_of to flow))
        (sym came.1 ∙ (sym (append-nil made_before) ∙ ap (λ l. made_before ++ l) (sym gives))),
  );
}

pub puts_flow : (to : Option SavesTo) (flow : Flow) (result : Result Printing NoMemory) (old new : FilesMeaning) (before after : Option (List ℕ)) → Writes (flow_line flow) before after →
    Saves to flow result old new → Puts to Whole (flow ∷ []) result old new before after
puts_flow to flow result old new before after line saves = record {
  made = saves.made;
  appends = saves.appends;
  goes = flow_goes to flow result saves.made before after line saves.gives;
  still = λ failed. absurd (whole_failed failed);
}

-- a run that came so far printed a prefix of the lines
stopped_part : (to : Option SavesTo) (prefix : List Flow) (flow : Flow) (start now : Option (List ℕ)) (made : List Append) → StopsAt to prefix flow start now made →
    WritesPart (flat_map flow_line (prefix ++ flow ∷ [])) start now
stopped_part to prefix flow start now made (at_line mid so_far part is) =
    let P : List ℕ → Type 0 = λ l. WritesPart l start now in
    subst P (sym (lines_one prefix flow)) (writes_part (flat_map flow_line prefix) (flow_line flow) start mid now so_far part)
stopped_part to prefix flow start now made (at_text piece so_far is grown) = whole_part (flat_map flow_line (prefix ++ flow ∷ [])) start now so_far

-- the flows behind the one at which it stopped
split_at : (flows prefix : List Flow) (flow : Flow) (rest : List Flow) → flows ≡ prefix ++ flow ∷ rest → (prefix ++ flow ∷ []) ++ rest ≡ flows
split_at flows prefix flow rest split = append_assoc prefix (flow ∷ []) rest ∙ sym split

pub came_part : (printing : Printing) (to : Option SavesTo) (flows : List Flow) (start now : Option (List ℕ)) (made : List Append) → Came printing to flows start now made →
    WritesPart (flat_map flow_line flows) start now
came_part Whole to flows start now made came = whole_part (flat_map flow_line flows) start now came.0
came_part Failed to flows start now made came =
    let P : List Flow → Type 0 = λ l. WritesPart (flat_map flow_line l) start now in
    subst P (split_at flows came.prefix came.flow came.rest came.split)
    (lines_part (came.prefix ++ came.flow ∷ []) came.rest start now (stopped_part to came.prefix came.flow start now made came.stops))

pub came_whole : (printing : Printing) (to : Option SavesTo) (flows : List Flow) (start now : Option (List ℕ)) (made : List Append) → printing ≡ Whole → Came printing to flows start now made →
    Writes (flat_map flow_line flows) start now
came_whole printing to flows start now made whole came =
    let P : Printing → Type 0 = λ p. Came p to flows start now made in
    let all : Came Whole to flows start now made = subst P whole came in
    all.0

-- no flow came yet
pub came_none : (to : Option SavesTo) (start : Option (List ℕ)) → Came Whole to [] start start []
came_none to start = (writes_none start start refl, refl)

kept_on : (first before after : FilesMeaning) → KeepsCounts first before → after.misses ≡ before.misses → after.faults ≡ before.faults → before.losses ≤ after.losses → KeepsCounts first after
kept_on first before after kept misses faults losses = record {
  misses = misses ∙ kept.misses;
  faults = faults ∙ kept.faults;
  losses = le_trans kept.losses losses;
}

kept_by : (one : Append) (first before after : FilesMeaning) → KeepsCounts first before → IsMade one before after → KeepsCounts first after
kept_by (put piece) first before after kept is = kept_on first before after kept is.misses is.faults is.losses
kept_by (lost piece) first before after kept is = kept_on first before after kept is.misses is.faults is.later

-- appends leave the counts of reads as they were, and that of losses only rises
pub appends_keep : (to : Option SavesTo) (first : FilesMeaning) (made : List Append) (now : FilesMeaning) → Appending to first made now → KeepsCounts first now
appends_keep to first made now none_made = record { misses = refl; faults = refl; losses = le_refl first.losses }
appends_keep to first made now (one_made so_far next one flow before after behind piece is grown) = kept_by one first before after (appends_keep to first so_far before behind) is

pub broke_keeps : (to : Option SavesTo) (first : FilesMeaning) (made : List Append) (now : FilesMeaning) → BrokeAppending to first made now → KeepsCounts first now
broke_keeps to first made now (broke_elsewhere so_far) = appends_keep to first made now so_far
broke_keeps to first made now (broke_at last piece flow so_far is kept) = kept_on first last now (appends_keep to first made last so_far) kept.misses kept.faults kept.losses

pub appends_by_keep : (result : Result Printing NoMemory) (to : Option SavesTo) (first : FilesMeaning) (made : List Append) (now : FilesMeaning) → AppendsBy result to first made now → KeepsCounts first now
appends_by_keep (Ok printing) to first made now appends = appends_keep to first made now appends
appends_by_keep (Err e) to first made now appends = broke_keeps to first made now appends

no_piece : {P : Type 0} (piece : Piece) (flow : Flow) → pieces_of None flow ≡ piece ∷ [] → P
no_piece piece flow is = absurd (cc)

-- where no file is named, nothing is appended
pub none_appended : (first : FilesMeaning) (made : List Append) (now : FilesMeaning) → Appending None first made now → (made ≡ []) × (now ≡ first)
none_appended first made now none_made = (refl, refl)
none_appended first made now (one_made so_far next one flow before after behind piece is grown) = no_piece (piece_in one) flow piece

pub none_broke : (first : FilesMeaning) (made : List Append) (now : FilesMeaning) → BrokeAppending None first made now → (made ≡ []) × (now ≡ first)
none_broke first made now (broke_elsewhere so_far) = none_appended first made now so_far
none_broke first made now (broke_at last piece flow so_far is kept) = no_piece piece flow is

pub none_appended_by : (result : Result Printing NoMemory) (first : FilesMeaning) (made : List Append) (now : FilesMeaning) → AppendsBy result None first made now → (made ≡ []) × (now ≡ first)
none_appended_by (Ok printing) first made now appends = none_appended first made now appends
none_appended_by (Err e) first made now appends = none_broke first made now appends

-- and files are left as they were
pub none_saved : (was : Printing) (flows : List Flow) (result : Result Printing NoMemory) (old new : FilesMeaning) (before after : Option (List ℕ)) →
    Puts None was flows result old new before after → new ≡ old
none_saved was flows result old new before after puts = (none_appended_by result old puts.made new puts.appends).1

-- a front of what was put of pieces is what was put of a prefix of them
front_put : (pieces : List Piece) (made : List Append) → IsPrefixOf made (map put pieces) → ArePut pieces made
front_put pieces made (rest, whole) =
    all_put (take (length made) pieces) (drop (length made) pieces, sym (take-append-drop (length made) pieces))
    (sym (take-append_seam made rest) ∙ (ap (take (length made)) (sym whole) ∙ take-map put (length made) pieces))

-- the pieces behind those of a prefix
saved_split : (to : Option SavesTo) (flows prefix : List Flow) (flow : Flow) (rest : List Flow) → flows ≡ prefix ++ flow ∷ rest →
    saved to flows ≡ (saved to prefix ++ pieces_of to flow) ++ saved to rest
saved_split to flows prefix flow rest split =
    ap (saved to) (sym (split_at flows prefix flow rest split)) ∙ (saved_more to (prefix ++ flow ∷ []) rest ∙ ap (λ l. l ++ saved to rest) (saved_one to prefix flow))

stopped_put : (to : Option SavesTo) (flows prefix : List Flow) (flow : Flow) (rest : List Flow) (start now : Option (List ℕ)) (made : List Append) → flows ≡ prefix ++ flow ∷ rest →
    StopsAt to prefix flow start now made → ArePut (saved to flows) made
stopped_put to flows prefix flow rest start now made split (at_line mid so_far part is) =
    all_put (saved to prefix) (pieces_of to flow ++ saved to rest, saved_split to flows prefix flow rest split ∙ append_assoc (saved to prefix) (pieces_of to flow) (saved to rest)) is
stopped_put to flows prefix flow rest start now made split (at_text piece so_far is grown) =
    last_lost (saved to prefix) piece (saved to rest, saved_split to flows prefix flow rest split ∙ ap (λ l. (saved to prefix ++ l) ++ saved to rest) is) grown

-- what was appended of flows is of a prefix of their pieces
pub came_put : (printing : Printing) (to : Option SavesTo) (flows : List Flow) (start now : Option (List ℕ)) (made : List Append) → Came printing to flows start now made →
    ArePut (saved to flows) made
came_put Whole to flows start now made came = all_put (saved to flows) ([], sym (append-nil (saved to flows))) came.1
came_put Failed to flows start now made came = stopped_put to flows came.prefix came.flow came.rest start now made came.split came.stops

pub broke_put : (to : Option SavesTo) (flows : List Flow) (start now : Option (List ℕ)) (made : List Append) → Broke to flows start now made → ArePut (saved to flows) made
broke_put to flows start now made broke = front_put (saved to flows) made broke.put_so_far

-- and of a run that began with nothing printed
pub came_or_broke_put : (result : Result Printing NoMemory) (to : Option SavesTo) (flows : List Flow) (start now : Option (List ℕ)) (made : List Append) → CameOrBroke result to flows start now made →
    ArePut (saved to flows) made
came_or_broke_put (Ok printing) to flows start now made came = came_put printing to flows start now made came
came_or_broke_put (Err e) to flows start now made broke = broke_put to flows start now made broke

pub came_or_broke_part : (result : Result Printing NoMemory) (to : Option SavesTo) (flows : List Flow) (start now : Option (List ℕ)) (made : List Append) → CameOrBroke result to flows start now made →
    WritesPart (flat_map flow_line flows) start now
came_or_broke_part (Ok printing) to flows start now made came = came_part printing to flows start now made came
came_or_broke_part (Err e) to flows start now made broke = broke.printed

-- one flow more, and memory ran out there
pub puts_stop : (to : Option SavesTo) (was mid : Printing) (list prefix : List Flow) (x : Flow) (rest : List Flow) (e : NoMemory) (result : Result Printing NoMemory) (old between new : FilesMeaning)
    (before half after : Option (List ℕ)) → IsErr result → prefix ++ x ∷ rest ≡ list → Puts to was prefix (Ok mid) old between before half → Puts to mid (x ∷ []) (Err e) between new half after →
    Puts to was list result old new before after
puts_stop to was mid list prefix x rest e (Ok printing) old between new before half after is split first next = absurd (cc)
puts_stop to was mid list prefix x rest e (Err same) old between new before half after is split first next =
    let P : List Flow → Type 0 = λ l. Puts to was l (Err e) old new before after in
    subst P (front_next prefix x rest list split) (puts_broke to was (prefix ++ x ∷ []) rest e old new before after
    (puts_more to was mid prefix (x ∷ []) (Err e) old between new before half after first next))
