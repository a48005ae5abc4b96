-- What is gathered key by key is what the definitions say of the whole table, since its keys ascend.
use Rattle.std.proofs.Common.{◌≡◌, ℕ, Bool, true, false, List, [], ◌∷◌, bytes_eq, Option, Some, None, Result, Ok, Err, IfErr, if◌then◌else◌, String, Global, Less, string_bytes, refl, sym, ap, subst, ◌∙◌}
use Rattle.std.proofs.lemmas.Slice.Eq.{bytes_eq-Decides}
use Rattle.std.specs.List.{AllByRecursion}
use Rattle.std.specs.List.Sorted.{IsStrictlySortedBy}
use Rattle.std.specs.Map.{keys_of}
use Rattle.std.specs.String.{string_cmp}
use Rattle.toml.specs.Data.{Data, Members, member, get_member}
use Rattle.toml.specs.View.{view, members_view}
use Rattle.toml.proofs.Views.{Entry}
use Rattle.px_options.specs.Gathered.{and_then, gathered}
use Rattle.px_options.specs.Keys.{key_of, later_key_of, name_of, replay_key_of, sticky_key_of}
use Rattle.px_options.specs.Lines as lines
use Rattle.px_options.specs.Lines.{Line}
use Rattle.px_options.specs.Options.{Settings, defaults, first_refusal, options_by, options_of, or_others, refusal_of_key, value_or, why}
use Rattle.px_options.specs.Steps.{put_at, put_by, put_named}
use Rattle.px_options.specs.declared.error.OptionsError.{OptionsError}
use Rattle.px_options.specs.declared.key.Key.{Key}
use Rattle.px_options.specs.declared.key.Key.TheVariants as key

-- each option by its line, with what was before as the default
abbrev settings_from : Settings → Members → Settings
settings_from s table = record {
  anticache = value_or lines.anticache s.anticache (get_member (name_of key.Anticache) table);
  anticomp = value_or lines.anticomp s.anticomp (get_member (name_of key.Anticomp) table);
  block_list = value_or lines.block_list s.block_list (get_member (name_of key.BlockList) table);
  client_replay = value_or lines.client_replay s.client_replay (get_member (name_of key.ClientReplay) table);
  control = value_or lines.control s.control (get_member (name_of key.Control) table);
  events = value_or lines.events s.events (get_member (name_of key.Events) table);
  intercept = value_or lines.intercept s.intercept (get_member (name_of key.Intercept) table);
  listen = value_or lines.listen s.listen (get_member (name_of key.Listen) table);
  map_local = value_or lines.map_local s.map_local (get_member (name_of key.MapLocal) table);
  map_remote = value_or lines.map_remote s.map_remote (get_member (name_of key.MapRemote) table);
  mode = value_or lines.mode s.mode (get_member (name_of key.Mode) table);
  modify_body = value_or lines.modify_body s.modify_body (get_member (name_of key.ModifyBody) table);
  modify_headers = value_or lines.modify_headers s.modify_headers (get_member (name_of key.ModifyHeaders) table);
  save_stream_file = value_or lines.save_stream_file s.save_stream_file (get_member (name_of key.SaveStreamFile) table);
  save_stream_filter = value_or lines.save_stream_filter s.save_stream_filter (get_member (name_of key.SaveStreamFilter) table);
  server_replay = value_or lines.server_replay s.server_replay (get_member (name_of key.ServerReplay) table);
  server_replay_extra = value_or lines.server_replay_extra s.server_replay_extra (get_member (name_of key.ServerReplayExtra) table);
  server_replay_ignore_content = value_or lines.server_replay_ignore_content s.server_replay_ignore_content (get_member (name_of key.ServerReplayIgnoreContent) table);
  server_replay_ignore_host = value_or lines.server_replay_ignore_host s.server_replay_ignore_host (get_member (name_of key.ServerReplayIgnoreHost) table);
  server_replay_ignore_params = value_or lines.server_replay_ignore_params s.server_replay_ignore_params (get_member (name_of key.ServerReplayIgnoreParams) table);
  server_replay_ignore_port = value_or lines.server_replay_ignore_port s.server_replay_ignore_port (get_member (name_of key.ServerReplayIgnorePort) table);
  server_replay_refresh = value_or lines.server_replay_refresh s.server_replay_refresh (get_member (name_of key.ServerReplayRefresh) table);
  server_replay_reuse = value_or lines.server_replay_reuse s.server_replay_reuse (get_member (name_of key.ServerReplayReuse) table);
  server_replay_use_headers = value_or lines.server_replay_use_headers s.server_replay_use_headers (get_member (name_of key.ServerReplayUseHeaders) table);
  stickyauth = value_or lines.stickyauth s.stickyauth (get_member (name_of key.Stickyauth) table);
  stickycookie = value_or lines.stickycookie s.stickycookie (get_member (name_of key.Stickycookie) table);
  stream_large_bodies = value_or lines.stream_large_bodies s.stream_large_bodies (get_member (name_of key.StreamLargeBodies) table);
}

-- what is gathered from these members is what they say
abbrev IsGathered : Members → Type 0
IsGathered ms = (t : Settings) → gathered ms t ≡ options_by (first_refusal ms) (settings_from t ms)

line_more : {A : Type 0} (l : Line A) (a before : A) (o : Option Data) (d : Data) → o ≡ None → Ok a ≡ l.reads d → value_or l a o ≡ value_or l before (Some d)
line_more l a before o d none is = rw (none, ← is) refl

-- One key more, of a line: its option is put, and the others are gathered from then on. Where the option stands is said by `set`.
line_gathered : {A : Type 0} (l : Line A) (set : A → Settings → Settings) (before : A) (name : List ℕ) (d : Data) (ms : Members) (s : Settings)
    (r : Result A OptionsError) → r ≡ l.reads d → get_member name ms ≡ None → IsGathered ms
    → ((a : A) → settings_from (set a s) ms ≡ set (value_or l a (get_member name ms)) (settings_from s ms))
    → settings_from s (member name d ms) ≡ set (value_or l before (Some d)) (settings_from s ms)
    → and_then (gathered ms) (put_by (λ a. set a s) r) ≡ options_by (or_others (why r) (first_refusal ms)) (settings_from s (member name d ms))
line_gathered l set before name d ms s (Err e) is none ih behind front = refl
line_gathered l set before name d ms s (Ok a) is none ih behind front =
    ih (set a s)
    ∙ ap (options_by (first_refusal ms)) (behind a ∙ ap (λ v. set v (settings_from s ms)) (line_more l a before (get_member name ms) d none is) ∙ sym front)

or_named : (b : Bool) (k found : Key) (name : List ℕ) (others : Option Key) → (b ≡ true → name ≡ name_of k) → (if b then Some k else others) ≡ Some found
    → (others ≡ Some found → name ≡ name_of found) → name ≡ name_of found
or_named true k found name others same e next = let is : k ≡ found = cc in same refl ∙ ap name_of is
or_named false k found name others same e next = next e

nothing : {A : Type 0} (a : A) → ¬ (None ≡ Some a)
nothing a e = absurd (cc)

-- a key from `stickyauth` on has its name
named_sticky : (name : List ℕ) (found : Key) → sticky_key_of name ≡ Some found → name ≡ name_of found
named_sticky name found is =
    or_named (bytes_eq name (name_of key.Stickyauth)) key.Stickyauth found name _ (λ same. (bytes_eq-Decides _ _).0 same) is (λ e.
    or_named (bytes_eq name (name_of key.Stickycookie)) key.Stickycookie found name _ (λ same. (bytes_eq-Decides _ _).0 same) e (λ e.
    or_named (bytes_eq name (name_of key.StreamLargeBodies)) key.StreamLargeBodies found name _ (λ same. (bytes_eq-Decides _ _).0 same) e (λ e.
    absurd (nothing found e))))

-- a key from `server_replay` on has its name
named_replay : (name : List ℕ) (found : Key) → replay_key_of name ≡ Some found → name ≡ name_of found
named_replay name found is =
    or_named (bytes_eq name (name_of key.ServerReplay)) key.ServerReplay found name _ (λ same. (bytes_eq-Decides _ _).0 same) is (λ e.
    or_named (bytes_eq name (name_of key.ServerReplayExtra)) key.ServerReplayExtra found name _ (λ same. (bytes_eq-Decides _ _).0 same) e (λ e.
    or_named (bytes_eq name (name_of key.ServerReplayIgnoreContent)) key.ServerReplayIgnoreContent found name _ (λ same. (bytes_eq-Decides _ _).0 same) e (λ e.
    or_named (bytes_eq name (name_of key.ServerReplayIgnoreHost)) key.ServerReplayIgnoreHost found name _ (λ same. (bytes_eq-Decides _ _).0 same) e (λ e.
    or_named (bytes_eq name (name_of key.ServerReplayIgnoreParams)) key.ServerReplayIgnoreParams found name _ (λ same. (bytes_eq-Decides _ _).0 same) e (λ e.
    or_named (bytes_eq name (name_of key.ServerReplayIgnorePort)) key.ServerReplayIgnorePort found name _ (λ same. (bytes_eq-Decides _ _).0 same) e (λ e.
    or_named (bytes_eq name (name_of key.ServerReplayRefresh)) key.ServerReplayRefresh found name _ (λ same. (bytes_eq-Decides _ _).0 same) e (λ e.
    or_named (bytes_eq name (name_of key.ServerReplayReuse)) key.ServerReplayReuse found name _ (λ same. (bytes_eq-Decides _ _).0 same) e (λ e.
    or_named (bytes_eq name (name_of key.ServerReplayUseHeaders)) key.ServerReplayUseHeaders found name _ (λ same. (bytes_eq-Decides _ _).0 same) e (λ e.
    named_sticky name found e)))))))))

-- a key from `listen` on has its name
named_later : (name : List ℕ) (found : Key) → later_key_of name ≡ Some found → name ≡ name_of found
named_later name found is =
    or_named (bytes_eq name (name_of key.Listen)) key.Listen found name _ (λ same. (bytes_eq-Decides _ _).0 same) is (λ e.
    or_named (bytes_eq name (name_of key.MapLocal)) key.MapLocal found name _ (λ same. (bytes_eq-Decides _ _).0 same) e (λ e.
    or_named (bytes_eq name (name_of key.MapRemote)) key.MapRemote found name _ (λ same. (bytes_eq-Decides _ _).0 same) e (λ e.
    or_named (bytes_eq name (name_of key.Mode)) key.Mode found name _ (λ same. (bytes_eq-Decides _ _).0 same) e (λ e.
    or_named (bytes_eq name (name_of key.ModifyBody)) key.ModifyBody found name _ (λ same. (bytes_eq-Decides _ _).0 same) e (λ e.
    or_named (bytes_eq name (name_of key.ModifyHeaders)) key.ModifyHeaders found name _ (λ same. (bytes_eq-Decides _ _).0 same) e (λ e.
    or_named (bytes_eq name (name_of key.SaveStreamFile)) key.SaveStreamFile found name _ (λ same. (bytes_eq-Decides _ _).0 same) e (λ e.
    or_named (bytes_eq name (name_of key.SaveStreamFilter)) key.SaveStreamFilter found name _ (λ same. (bytes_eq-Decides _ _).0 same) e (λ e.
    named_replay name found e))))))))

-- a key has its name
named : (name : List ℕ) (found : Key) → key_of name ≡ Some found → name ≡ name_of found
named name found is =
    or_named (bytes_eq name (name_of key.Anticache)) key.Anticache found name _ (λ same. (bytes_eq-Decides _ _).0 same) is (λ e.
    or_named (bytes_eq name (name_of key.Anticomp)) key.Anticomp found name _ (λ same. (bytes_eq-Decides _ _).0 same) e (λ e.
    or_named (bytes_eq name (name_of key.BlockList)) key.BlockList found name _ (λ same. (bytes_eq-Decides _ _).0 same) e (λ e.
    or_named (bytes_eq name (name_of key.ClientReplay)) key.ClientReplay found name _ (λ same. (bytes_eq-Decides _ _).0 same) e (λ e.
    or_named (bytes_eq name (name_of key.Control)) key.Control found name _ (λ same. (bytes_eq-Decides _ _).0 same) e (λ e.
    or_named (bytes_eq name (name_of key.Events)) key.Events found name _ (λ same. (bytes_eq-Decides _ _).0 same) e (λ e.
    or_named (bytes_eq name (name_of key.Intercept)) key.Intercept found name _ (λ same. (bytes_eq-Decides _ _).0 same) e (λ e.
    named_later name found e)))))))

-- one member more, by its key
abbrev More : Option Key → Members → Data → Settings → List ℕ → Type 0
More k ms d s name =
    get_member name ms ≡ None
    → and_then (gathered ms) (put_at k name d s) ≡ options_by (or_others (refusal_of_key k name d) (first_refusal ms)) (settings_from s (member name d ms))

by_key : (k : Option Key) (name : List ℕ) (d : Data) (ms : Members) (s : Settings) → key_of name ≡ k → IsGathered ms → More k ms d s name
by_key None name d ms s is ih = λ none. refl
by_key (Some key.Anticache) name d ms s is ih =
    subst (More (Some key.Anticache) ms d s) (sym (named name key.Anticache is)) (λ none.
    line_gathered lines.anticache (λ a s. record s { anticache = a }) s.anticache (name_of key.Anticache) d ms s (lines.anticache.reads d) refl none ih (λ a. refl) refl)
by_key (Some key.Anticomp) name d ms s is ih =
    subst (More (Some key.Anticomp) ms d s) (sym (named name key.Anticomp is)) (λ none.
    line_gathered lines.anticomp (λ a s. record s { anticomp = a }) s.anticomp (name_of key.Anticomp) d ms s (lines.anticomp.reads d) refl none ih (λ a. refl) refl)
by_key (Some key.BlockList) name d ms s is ih =
    subst (More (Some key.BlockList) ms d s) (sym (named name key.BlockList is)) (λ none.
    line_gathered lines.block_list (λ a s. record s { block_list = a }) s.block_list (name_of key.BlockList) d ms s (lines.block_list.reads d) refl none ih (λ a. refl) refl)
by_key (Some key.ClientReplay) name d ms s is ih =
    subst (More (Some key.ClientReplay) ms d s) (sym (named name key.ClientReplay is)) (λ none.
    line_gathered lines.client_replay (λ a s. record s { client_replay = a }) s.client_replay (name_of key.ClientReplay) d ms s (lines.client_replay.reads d) refl none ih (λ a. refl) refl)
by_key (Some key.Control) name d ms s is ih =
    subst (More (Some key.Control) ms d s) (sym (named name key.Control is)) (λ none.
    line_gathered lines.control (λ a s. record s { control = a }) s.control (name_of key.Control) d ms s (lines.control.reads d) refl none ih (λ a. refl) refl)
by_key (Some key.Events) name d ms s is ih =
    subst (More (Some key.Events) ms d s) (sym (named name key.Events is)) (λ none.
    line_gathered lines.events (λ a s. record s { events = a }) s.events (name_of key.Events) d ms s (lines.events.reads d) refl none ih (λ a. refl) refl)
by_key (Some key.Intercept) name d ms s is ih =
    subst (More (Some key.Intercept) ms d s) (sym (named name key.Intercept is)) (λ none.
    line_gathered lines.intercept (λ a s. record s { intercept = a }) s.intercept (name_of key.Intercept) d ms s (lines.intercept.reads d) refl none ih (λ a. refl) refl)
by_key (Some key.Listen) name d ms s is ih =
    subst (More (Some key.Listen) ms d s) (sym (named name key.Listen is)) (λ none.
    line_gathered lines.listen (λ a s. record s { listen = a }) s.listen (name_of key.Listen) d ms s (lines.listen.reads d) refl none ih (λ a. refl) refl)
by_key (Some key.MapLocal) name d ms s is ih =
    subst (More (Some key.MapLocal) ms d s) (sym (named name key.MapLocal is)) (λ none.
    line_gathered lines.map_local (λ a s. record s { map_local = a }) s.map_local (name_of key.MapLocal) d ms s (lines.map_local.reads d) refl none ih (λ a. refl) refl)
by_key (Some key.MapRemote) name d ms s is ih =
    subst (More (Some key.MapRemote) ms d s) (sym (named name key.MapRemote is)) (λ none.
    line_gathered lines.map_remote (λ a s. record s { map_remote = a }) s.map_remote (name_of key.MapRemote) d ms s (lines.map_remote.reads d) refl none ih (λ a. refl) refl)
by_key (Some key.Mode) name d ms s is ih =
    subst (More (Some key.Mode) ms d s) (sym (named name key.Mode is)) (λ none.
    line_gathered lines.mode (λ a s. record s { mode = a }) s.mode (name_of key.Mode) d ms s (lines.mode.reads d) refl none ih (λ a. refl) refl)
by_key (Some key.ModifyBody) name d ms s is ih =
    subst (More (Some key.ModifyBody) ms d s) (sym (named name key.ModifyBody is)) (λ none.
    line_gathered lines.modify_body (λ a s. record s { modify_body = a }) s.modify_body (name_of key.ModifyBody) d ms s (lines.modify_body.reads d) refl none ih (λ a. refl) refl)
by_key (Some key.ModifyHeaders) name d ms s is ih =
    subst (More (Some key.ModifyHeaders) ms d s) (sym (named name key.ModifyHeaders is)) (λ none.
    line_gathered lines.modify_headers (λ a s. record s { modify_headers = a }) s.modify_headers (name_of key.ModifyHeaders) d ms s (lines.modify_headers.reads d) refl none ih (λ a. refl) refl)
by_key (Some key.SaveStreamFile) name d ms s is ih =
    subst (More (Some key.SaveStreamFile) ms d s) (sym (named name key.SaveStreamFile is)) (λ none.
    line_gathered lines.save_stream_file (λ a s. record s { save_stream_file = a }) s.save_stream_file (name_of key.SaveStreamFile) d ms s (lines.save_stream_file.reads d) refl none ih (λ a. refl) refl)
by_key (Some key.SaveStreamFilter) name d ms s is ih =
    subst (More (Some key.SaveStreamFilter) ms d s) (sym (named name key.SaveStreamFilter is)) (λ none.
    line_gathered lines.save_stream_filter (λ a s. record s { save_stream_filter = a }) s.save_stream_filter (name_of key.SaveStreamFilter) d ms s (lines.save_stream_filter.reads d) refl none ih (λ a. refl) refl)
by_key (Some key.ServerReplay) name d ms s is ih =
    subst (More (Some key.ServerReplay) ms d s) (sym (named name key.ServerReplay is)) (λ none.
    line_gathered lines.server_replay (λ a s. record s { server_replay = a }) s.server_replay (name_of key.ServerReplay) d ms s (lines.server_replay.reads d) refl none ih (λ a. refl) refl)
by_key (Some key.ServerReplayExtra) name d ms s is ih =
    subst (More (Some key.ServerReplayExtra) ms d s) (sym (named name key.ServerReplayExtra is)) (λ none.
    line_gathered lines.server_replay_extra (λ a s. record s { server_replay_extra = a }) s.server_replay_extra (name_of key.ServerReplayExtra) d ms s (lines.server_replay_extra.reads d) refl none ih (λ a. refl) refl)
by_key (Some key.ServerReplayIgnoreContent) name d ms s is ih =
    subst (More (Some key.ServerReplayIgnoreContent) ms d s) (sym (named name key.ServerReplayIgnoreContent is)) (λ none.
    line_gathered lines.server_replay_ignore_content (λ a s. record s { server_replay_ignore_content = a }) s.server_replay_ignore_content (name_of key.ServerReplayIgnoreContent) d ms s (lines.server_replay_ignore_content.reads d) refl none ih (λ a. refl) refl)
by_key (Some key.ServerReplayIgnoreHost) name d ms s is ih =
    subst (More (Some key.ServerReplayIgnoreHost) ms d s) (sym (named name key.ServerReplayIgnoreHost is)) (λ none.
    line_gathered lines.server_replay_ignore_host (λ a s. record s { server_replay_ignore_host = a }) s.server_replay_ignore_host (name_of key.ServerReplayIgnoreHost) d ms s (lines.server_replay_ignore_host.reads d) refl none ih (λ a. refl) refl)
by_key (Some key.ServerReplayIgnoreParams) name d ms s is ih =
    subst (More (Some key.ServerReplayIgnoreParams) ms d s) (sym (named name key.ServerReplayIgnoreParams is)) (λ none.
    line_gathered lines.server_replay_ignore_params (λ a s. record s { server_replay_ignore_params = a }) s.server_replay_ignore_params (name_of key.ServerReplayIgnoreParams) d ms s (lines.server_replay_ignore_params.reads d) refl none ih (λ a. refl) refl)
by_key (Some key.ServerReplayIgnorePort) name d ms s is ih =
    subst (More (Some key.ServerReplayIgnorePort) ms d s) (sym (named name key.ServerReplayIgnorePort is)) (λ none.
    line_gathered lines.server_replay_ignore_port (λ a s. record s { server_replay_ignore_port = a }) s.server_replay_ignore_port (name_of key.ServerReplayIgnorePort) d ms s (lines.server_replay_ignore_port.reads d) refl none ih (λ a. refl) refl)
by_key (Some key.ServerReplayRefresh) name d ms s is ih =
    subst (More (Some key.ServerReplayRefresh) ms d s) (sym (named name key.ServerReplayRefresh is)) (λ none.
    line_gathered lines.server_replay_refresh (λ a s. record s { server_replay_refresh = a }) s.server_replay_refresh (name_of key.ServerReplayRefresh) d ms s (lines.server_replay_refresh.reads d) refl none ih (λ a. refl) refl)
by_key (Some key.ServerReplayReuse) name d ms s is ih =
    subst (More (Some key.ServerReplayReuse) ms d s) (sym (named name key.ServerReplayReuse is)) (λ none.
    line_gathered lines.server_replay_reuse (λ a s. record s { server_replay_reuse = a }) s.server_replay_reuse (name_of key.ServerReplayReuse) d ms s (lines.server_replay_reuse.reads d) refl none ih (λ a. refl) refl)
by_key (Some key.ServerReplayUseHeaders) name d ms s is ih =
    subst (More (Some key.ServerReplayUseHeaders) ms d s) (sym (named name key.ServerReplayUseHeaders is)) (λ none.
    line_gathered lines.server_replay_use_headers (λ a s. record s { server_replay_use_headers = a }) s.server_replay_use_headers (name_of key.ServerReplayUseHeaders) d ms s (lines.server_replay_use_headers.reads d) refl none ih (λ a. refl) refl)
by_key (Some key.Stickyauth) name d ms s is ih =
    subst (More (Some key.Stickyauth) ms d s) (sym (named name key.Stickyauth is)) (λ none.
    line_gathered lines.stickyauth (λ a s. record s { stickyauth = a }) s.stickyauth (name_of key.Stickyauth) d ms s (lines.stickyauth.reads d) refl none ih (λ a. refl) refl)
by_key (Some key.Stickycookie) name d ms s is ih =
    subst (More (Some key.Stickycookie) ms d s) (sym (named name key.Stickycookie is)) (λ none.
    line_gathered lines.stickycookie (λ a s. record s { stickycookie = a }) s.stickycookie (name_of key.Stickycookie) d ms s (lines.stickycookie.reads d) refl none ih (λ a. refl) refl)
by_key (Some key.StreamLargeBodies) name d ms s is ih =
    subst (More (Some key.StreamLargeBodies) ms d s) (sym (named name key.StreamLargeBodies is)) (λ none.
    line_gathered lines.stream_large_bodies (λ a s. record s { stream_large_bodies = a }) s.stream_large_bodies (name_of key.StreamLargeBodies) d ms s (lines.stream_large_bodies.reads d) refl none ih (λ a. refl) refl)

-- a key that is below others is none of them
no_key : (k : String Global) (es : List Entry) → AllByRecursion (λ y. string_cmp k y ≡ Less) (keys_of es) → get_member (string_bytes k) (members_view es) ≡ None
no_key k [] h = refl
no_key k (e ∷ es) h = rw h.0 (no_key k es h.1)

gathered_all : (es : List Entry) (s : Settings) → IsStrictlySortedBy string_cmp (keys_of es)
    → gathered (members_view es) s ≡ options_by (first_refusal (members_view es)) (settings_from s (members_view es))
unfolding IsStrictlySortedBy
gathered_all [] s h = refl
gathered_all (e ∷ es) s h =
    by_key (key_of (string_bytes e.0)) (string_bytes e.0) (view e.1) (members_view es) s refl (λ t. gathered_all es t h.1) (no_key e.0 es h.0)

-- what is gathered from a whole table, from the defaults on, is what it says
pub gathered_says : (es : List Entry) (s : Settings) (said : Result Settings OptionsError) → IsStrictlySortedBy string_cmp (keys_of es) → s ≡ defaults
    → gathered (members_view es) s ≡ said → options_of (members_view es) ≡ said
gathered_says es s said ordered new is = sym (gathered_all es defaults ordered) ∙ ap (gathered (members_view es)) (sym new) ∙ is

-- one key more
pub key_more : (es left : List Entry) (e : Entry) (name : List ℕ) (s t : Settings) → es ≡ e ∷ left → name ≡ string_bytes e.0 → put_named name (view e.1) s ≡ Ok t
    → gathered (members_view left) t ≡ gathered (members_view es) s
key_more es left e name s t is same put =
    sym (ap (λ es. gathered (members_view es) s) is
    ∙ ap (and_then (gathered (members_view left))) (subst (λ n. put_named n (view e.1) s ≡ Ok t) same put))

-- a key that is refused
pub key_refused : (es left : List Entry) (e : Entry) (name : List ℕ) (s : Settings) (refused : OptionsError) → es ≡ e ∷ left → name ≡ string_bytes e.0
    → put_named name (view e.1) s ≡ Err refused → gathered (members_view es) s ≡ Err refused
key_refused es left e name s refused is same put =
    ap (λ es. gathered (members_view es) s) is
    ∙ ap (and_then (gathered (members_view left))) (subst (λ n. put_named n (view e.1) s ≡ Err refused) same put)

-- what holds of a refusal, by what else holds of it
pub if_err_as : {A E : Type 0} {P Q : E → Type 0} (r : Result A E) → ((e : E) → P e → Q e) → IfErr r P → IfErr r Q
if_err_as (Ok a) turn held = tt
if_err_as (Err e) turn held = turn e held
