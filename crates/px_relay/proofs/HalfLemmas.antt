-- One side: what it hears, and the frames that wait.
use Rattle.std.proofs.Common.{◌≡◌, ◌∙◌, ℕ, ◌+◌, ◌-◌, ◌≤◌, Bool, true, false, ◌||◌, List, [], ◌∷◌, ◌++◌, append-nil, length, drop, All, Option, Some, None, Result, Ok, Err, refl, sym, ap, subst, arith, length-append}
use Rattle.std.specs.Prelude.{⊤}
use Rattle.std.proofs.lemmas.List.{drop-append-le}
use Rattle.px_frame.specs.declared.fault.FrameError.{FrameError}
use Rattle.px_frame.specs.declared.fault.FrameError.TheVariants as error
use Rattle.px_frame.specs.declared.fault.FrameFault.{FrameFault}
use Rattle.px_frame.specs.declared.frame.Frame.{Frame}
use Rattle.px_frame.specs.declared.frame.Standing.{Standing}
use Rattle.px_frame.specs.Frames.{Ending, IsFrames, behind, behind_all, ends, fails, fault, front, goes, nothing, refused, rest, stands}
use Rattle.px_frame.specs.Head.{has_length}
use Rattle.px_frame.specs.Reader.{Answers, Feeds, FeedsBy, Reading}
use Rattle.px_frame.proofs.FrontLemmas.{front_shorter}
use Rattle.px_frame.proofs.HeadLemmas.{has_length_on}
use Rattle.px_relay.specs.declared.half.Half.{Half as HalfState}
use Rattle.px_relay.specs.declared.peer.Peer.{Peer}
use Rattle.px_relay.specs.Calls.{AllWritable, Hears, IsFresh, IsWritable, answer_of}
use Rattle.px_relay.specs.Chain.{first_half}
use Rattle.px_relay.specs.Fronts.{frames_writable, stays_idle}
use Rattle.px_relay.specs.Kept.{half_size}
use Rattle.px_relay.specs.Messages.{payload_so_far}
use Rattle.px_relay.specs.Peers.{is_client}
use Rattle.px_relay.specs.Stages.{Half, most_messages, standing}
use Rattle.px_relay.specs.Stands.{EndsAs, IsQueued, IsUnheard}

-- ---- what is answered

answer_ok : (f : Option FrameFault) → answer_of f ≡ Ok tt → f ≡ None
answer_ok None is = refl
answer_ok (Some cause) is = absurd (let no : Err (error.Fault cause) ≡ Ok tt = is in cc)

answer_fault : (f : Option FrameFault) (cause : FrameFault) → answer_of f ≡ Err (error.Fault cause) → f ≡ Some cause
answer_fault None cause is = absurd (let no : Ok tt ≡ Err (error.Fault cause) = is in cc)
answer_fault (Some other) cause is = let same : error.Fault other ≡ error.Fault cause = cc in let e : other ≡ cause = cc in ap Some e

-- ---- hearing

-- the reader with these bytes of a frame that has begun
abbrev reading : Peer → Option ℕ → List ℕ → Reading
reading peer begun kept = record { masked = is_client peer; begun = begun; rest = kept; failed = None }

ended_by : (peer : Peer) (half : Half) (messages : ℕ) (kept : List ℕ) (end : Ending) (after : HalfState) → half.judged ≡ has_length kept →
    Answers end (reading peer (payload_so_far half.begun) kept) after.queue.items (most_messages - messages) (answer_of after.fault) after.reader →
    EndsAs peer half messages end after
ended_by peer half messages kept (rest bytes) after judged (ok, made) = (
  answer_ok after.fault ok,
  made ∙ ap (λ j. record {
    masked = is_client peer;
    begun = (behind_all (record { begun = payload_so_far half.begun; left = most_messages - messages; judged = j }) after.queue.items).begun;
    rest = bytes;
    failed = None;
  }) (sym judged),
)
ended_by peer half messages kept (fault cause) after judged (failed, made) = answer_fault after.fault cause failed

-- what was not handed to a side yet is heard
pub hears_queued : (peer : Peer) (half : Half) (messages : ℕ) (bytes pending : List ℕ) (before after : HalfState) → IsUnheard peer half bytes pending before →
    Hears before pending (most_messages - messages) after → IsQueued peer half messages bytes after
hears_queued peer half messages bytes pending before after is hears =
    let feeds : Feeds (reading peer (payload_so_far half.begun) is.kept) pending (most_messages - messages) after.queue.items (answer_of after.fault) after.reader =
    subst (λ (r : Reading). Feeds r pending (most_messages - messages) after.queue.items (answer_of after.fault) after.reader) is.reader hears.feeds in
    record {
      end = feeds.0;
      frames = subst (λ (b : List ℕ). IsFrames (is_client peer) (standing half messages) b after.queue.items feeds.0) (sym is.come)
          (subst (λ (j : Bool). IsFrames (is_client peer) (record { begun = payload_so_far half.begun; left = most_messages - messages; judged = j }) (is.kept ++ pending) after.queue.items feeds.0)
          (sym is.judged) feeds.1);
      ended = ended_by peer half messages is.kept feeds.0 after is.judged feeds.2;
      judged = λ was. ap has_length is.come ∙ has_length_on is.kept pending (sym is.judged ∙ was);
      begun = hears.begun ∙ is.begun;
      within = is.within;
    }

-- bytes that come behind those that were heard
pub unheard_more : (peer : Peer) (half : Half) (bytes more : List ℕ) (state : HalfState) → IsUnheard peer half bytes [] state →
    IsUnheard peer half (bytes ++ more) more state
unheard_more peer half bytes more state is = record {
  kept = is.kept;
  reader = is.reader;
  come = drop-append-le half.used bytes more is.within ∙ ap (λ (l : List ℕ). l ++ more) (is.come ∙ append-nil is.kept);
  judged = is.judged;
  idle = is.idle;
  queue = is.queue;
  fault = is.fault;
  begun = is.begun;
  within = let w = is.within in let l = length-append bytes more in omega arith;
}

-- where nothing is left to be heard no frame waits
pub unheard_queued : (peer : Peer) (half : Half) (messages : ℕ) (bytes : List ℕ) (state : HalfState) → IsUnheard peer half bytes [] state →
    IsQueued peer half messages bytes state
unheard_queued peer half messages bytes state is =
    let all : is.kept ≡ drop half.used bytes = sym (is.come ∙ append-nil is.kept) in
    let none : front (is_client peer) (standing half messages) is.kept ≡ nothing =
    ap (λ j. front (is_client peer) (record { begun = payload_so_far half.begun; left = most_messages - messages; judged = j }) is.kept) is.judged
    ∙ is.idle (most_messages - messages) in
    record {
      end = rest is.kept;
      frames = subst (λ (l : List Frame). IsFrames (is_client peer) (standing half messages) (drop half.used bytes) l (rest is.kept)) (sym is.queue)
          (subst (λ (b : List ℕ). IsFrames (is_client peer) (standing half messages) b [] (rest is.kept)) all (ends (standing half messages) is.kept none));
      ended = (
        is.fault,
        is.reader ∙ ap (λ (l : List Frame). record {
          masked = is_client peer;
          begun = (behind_all (standing half messages) l).begun;
          rest = is.kept;
          failed = None;
        }) (sym is.queue),
      );
      judged = λ was. ap has_length (sym all) ∙ (sym is.judged ∙ was);
      begun = is.begun;
      within = is.within;
    }

-- ---- no frame waits

or_implied : (a b : Bool) → (a ≡ true → b ≡ true) → (a || b) ≡ b
or_implied true b h = sym (h refl)
or_implied false b h = refl

-- what a side without frames that wait stands at
data NoFrames (masked : Bool) (at : Standing) (bytes : List ℕ) (end : Ending) : Type 0 where
  idle : front masked at bytes ≡ nothing → end ≡ rest bytes → NoFrames masked at bytes end
  broke : (cause : FrameFault) → front masked at bytes ≡ refused cause → end ≡ fault cause → NoFrames masked at bytes end

no_frames : (masked : Bool) (at : Standing) (bytes : List ℕ) (queue : List Frame) (end : Ending) → IsFrames masked at bytes queue end → queue ≡ [] →
    NoFrames masked at bytes end
no_frames masked _ _ _ _ (ends at bytes e) is = idle e refl
no_frames masked _ _ _ _ (fails at bytes cause e) is = broke cause e refl
no_frames masked _ _ _ _ (goes at bytes more frame frames end e h) is = absurd (let no : frame ∷ frames ≡ [] = is in cc)

-- the half behind a look at it
abbrev pub looked_at : Half → List ℕ → Half
looked_at half bytes = record half { judged = half.judged || has_length (drop half.used bytes) }

pub record IsEmptied (peer : Peer) (half : Half) (messages : ℕ) (bytes : List ℕ) (state : HalfState) : Type 0 where
  pub none : front (is_client peer) (standing half messages) (drop half.used bytes) ≡ nothing
  pub unheard : IsUnheard peer (looked_at half bytes) bytes [] state

emptied_by : (peer : Peer) (half : Half) (messages : ℕ) (bytes : List ℕ) (state : HalfState) (end : Ending) →
    NoFrames (is_client peer) (standing half messages) (drop half.used bytes) end → EndsAs peer half messages end state →
    (half.judged ≡ true → has_length (drop half.used bytes) ≡ true) → state.begun ≡ half.begun → half.used ≤ length bytes →
    state.queue.items ≡ [] → state.fault ≡ None → IsEmptied peer half messages bytes state
emptied_by peer half messages bytes state end (idle e is) ended judged begun within queue no_fault =
    let there = subst (λ (n : Ending). EndsAs peer half messages n state) is ended in
    record {
      none = e;
      unheard = record {
        kept = drop half.used bytes;
        reader = there.1 ∙ ap (λ (l : List Frame). record {
          masked = is_client peer;
          begun = (behind_all (standing half messages) l).begun;
          rest = drop half.used bytes;
          failed = None;
        }) queue;
        come = sym (append-nil (drop half.used bytes));
        judged = or_implied half.judged (has_length (drop half.used bytes)) judged;
        idle = λ left. stays_idle (is_client peer) (standing half messages) left (drop half.used bytes) e;
        queue = queue;
        fault = no_fault;
        begun = begun;
        within = within;
      };
    }
emptied_by peer half messages bytes state end (broke cause e is) ended judged begun within queue no_fault =
    let there : state.fault ≡ Some cause = subst (λ (n : Ending). EndsAs peer half messages n state) is ended in
    absurd (let no : None ≡ Some cause = sym no_fault ∙ there in cc)

-- without a fault nothing is whole there, and nothing is left to be heard
pub emptied : (peer : Peer) (half : Half) (messages : ℕ) (bytes : List ℕ) (state : HalfState) → IsQueued peer half messages bytes state →
    state.queue.items ≡ [] → state.fault ≡ None → IsEmptied peer half messages bytes state
emptied peer half messages bytes state is queue no_fault =
    emptied_by peer half messages bytes state is.end (no_frames (is_client peer) (standing half messages) (drop half.used bytes) state.queue.items is.end is.frames queue)
    is.ended is.judged is.begun is.within queue no_fault

broken_by : (peer : Peer) (half : Half) (messages : ℕ) (bytes : List ℕ) (state : HalfState) (end : Ending) (cause : FrameFault) →
    NoFrames (is_client peer) (standing half messages) (drop half.used bytes) end → EndsAs peer half messages end state → state.fault ≡ Some cause →
    front (is_client peer) (standing half messages) (drop half.used bytes) ≡ refused cause
broken_by peer half messages bytes state end cause (idle e is) ended failed =
    let there = subst (λ (n : Ending). EndsAs peer half messages n state) is ended in
    absurd (let no : None ≡ Some cause = sym there.0 ∙ failed in cc)
broken_by peer half messages bytes state end cause (broke other e is) ended failed =
    let there : state.fault ≡ Some other = subst (λ (n : Ending). EndsAs peer half messages n state) is ended in
    let same : Some other ≡ Some cause = sym there ∙ failed in
    let one : other ≡ cause = cc in
    e ∙ ap (λ (c : FrameFault). refused c) one

-- with one it stands at the front
pub broken_at : (peer : Peer) (half : Half) (messages : ℕ) (bytes : List ℕ) (state : HalfState) (cause : FrameFault) → IsQueued peer half messages bytes state →
    state.queue.items ≡ [] → state.fault ≡ Some cause → front (is_client peer) (standing half messages) (drop half.used bytes) ≡ refused cause
broken_at peer half messages bytes state cause is queue failed =
    broken_by peer half messages bytes state is.end cause
    (no_frames (is_client peer) (standing half messages) (drop half.used bytes) state.queue.items is.end is.frames queue) is.ended failed

-- ---- a frame waits

pub record IsFirst (masked : Bool) (at : Standing) (bytes : List ℕ) (frame : Frame) (frames : List Frame) (end : Ending) : Type 0 where
  pub more : List ℕ
  pub there : front masked at bytes ≡ stands frame more
  pub later : IsFrames masked (behind at frame) more frames end

pub first_of : (masked : Bool) (at : Standing) (bytes : List ℕ) (queue : List Frame) (end : Ending) (frame : Frame) (frames : List Frame) →
    IsFrames masked at bytes queue end → queue ≡ frame ∷ frames → IsFirst masked at bytes frame frames end
first_of masked _ _ _ _ frame frames (ends at bytes e) is = absurd (let no : [] ≡ frame ∷ frames = is in cc)
first_of masked _ _ _ _ frame frames (fails at bytes cause e) is = absurd (let no : [] ≡ frame ∷ frames = is in cc)
first_of masked _ _ _ _ frame frames (goes at bytes more first later end e h) is =
    let all : first ∷ later ≡ frame ∷ frames = is in
    let one : first ≡ frame = cc in
    let others : later ≡ frames = cc in
    record {
      more = more;
      there = e ∙ ap (λ (f : Frame). stands f more) one;
      later = subst (λ (f : Frame). IsFrames masked (behind at f) more frames end) one (subst (λ (l : List Frame). IsFrames masked (behind at first) more l end) others h);
    }

-- ---- how many frames and bytes there are

pub frames_few : (masked : Bool) (at : Standing) (bytes : List ℕ) (frames : List Frame) (left : List ℕ) (end : Ending) → IsFrames masked at bytes frames end →
    end ≡ rest left → length frames + length left ≤ length bytes
frames_few masked _ _ _ left _ (ends at bytes e) is = let l : bytes ≡ left = same_bytes is in let n = ap length l in omega arith
  where
    same_bytes : {b c : List ℕ} → rest b ≡ rest c → b ≡ c
    same_bytes e = cc
frames_few masked _ _ _ left _ (fails at bytes cause e) is = absurd (let no : fault cause ≡ rest left = is in cc)
frames_few masked _ _ _ left _ (goes at bytes more frame frames end e h) is =
    let further = frames_few masked _ more frames left end h is in
    let less = front_shorter masked at bytes frame more e in
    omega arith

pub frames_fewer : (masked : Bool) (at : Standing) (bytes : List ℕ) (frames : List Frame) (end : Ending) → IsFrames masked at bytes frames end →
    length frames ≤ length bytes
frames_fewer masked _ _ _ _ (ends at bytes e) = omega arith
frames_fewer masked _ _ _ _ (fails at bytes cause e) = omega arith
frames_fewer masked _ _ _ _ (goes at bytes more frame frames end e h) =
    let further = frames_fewer masked _ more frames end h in
    let less = front_shorter masked at bytes frame more e in
    omega arith

-- what a reader gives is no more than it had and was handed
few_by : (end : Ending) (old new : Reading) (bytes : List ℕ) (left : ℕ) (frames : List Frame) (result : Result ⊤ FrameError) (at : Standing) →
    IsFrames old.masked at (old.rest ++ bytes) frames end → Answers end old frames left result new → length frames + length new.rest ≤ length old.rest + length bytes
few_by (rest behind_bytes) old new bytes left frames result at is (ok, made) =
    let few = frames_few old.masked at (old.rest ++ bytes) frames behind_bytes (rest behind_bytes) is refl in
    let joined = length-append old.rest bytes in
    let kept : length new.rest ≡ length behind_bytes = ap (λ (r : Reading). length r.rest) made in
    omega arith
few_by (fault cause) old new bytes left frames result at is (failed, made) =
    let few = frames_fewer old.masked at (old.rest ++ bytes) frames (fault cause) is in
    let joined = length-append old.rest bytes in
    let kept : length new.rest ≡ 0 = ap (λ (r : Reading). length r.rest) made in
    omega arith

feeds_few : (failed : Option FrameFault) (old new : Reading) (bytes : List ℕ) (left : ℕ) (frames : List Frame) (result : Result ⊤ FrameError) →
    FeedsBy failed old bytes left frames result new → length frames + length new.rest ≤ length old.rest + length bytes
feeds_few (Some cause) old new bytes left frames result (none, failed, same) =
    let n = ap length none in let k : length new.rest ≡ length old.rest = ap (λ (r : Reading). length r.rest) same in omega arith
feeds_few None old new bytes left frames result (end, is, answers) = few_by end old new bytes left frames result _ is answers

pub hears_few : (before after : HalfState) (bytes : List ℕ) (left : ℕ) → Hears before bytes left after → half_size after ≤ half_size before + length bytes
hears_few before after bytes left hears =
    let few = feeds_few before.reader.failed before.reader after.reader bytes left after.queue.items (answer_of after.fault) hears.feeds in
    omega arith

feeds_writable : (failed : Option FrameFault) (old new : Reading) (bytes : List ℕ) (left : ℕ) (frames : List Frame) (result : Result ⊤ FrameError) →
    FeedsBy failed old bytes left frames result new → All IsWritable frames
feeds_writable (Some cause) old new bytes left frames result (none, failed, same) =
    subst (All IsWritable) (sym none) (λ k d less. absurd (omega arith))
feeds_writable None old new bytes left frames result (end, is, answers) = frames_writable old.masked _ (old.rest ++ bytes) frames end is

pub hears_writable : (before after : HalfState) (bytes : List ℕ) (left : ℕ) → Hears before bytes left after → AllWritable after
hears_writable before after bytes left hears =
    feeds_writable before.reader.failed before.reader after.reader bytes left after.queue.items (answer_of after.fault) hears.feeds

-- one of which nothing has come
pub fresh_unheard : (peer : Peer) (state : HalfState) → IsFresh peer state → IsUnheard peer first_half [] [] state
fresh_unheard peer state is = record {
  kept = [];
  reader = is.reader;
  come = refl;
  judged = refl;
  idle = λ left. refl;
  queue = is.queue;
  fault = is.fault;
  begun = is.begun;
  within = omega arith;
}
