-- What a call does to a layer that is one of two: what it does to the one that was made.
use Rattle.std.proofs.Common.{◌≡◌, List, ◌∷◌, [], ◌++◌, sym, subst}
use Rattle.px_event.specs.declared.command.Command.{Command}
use Rattle.px_event.specs.Layer.{Move, Standing, IsSound, Goes}
use Rattle.px_resend.specs.Joined.{stands_by}
use Rattle.px_resend.specs.Stands.{ResendStands}
use Rattle.px_resend.specs.declared.conversation.Conversation.{Conversation}
use Rattle.px_resend.specs.declared.conversation.Conversation.TheVariants as conversations
use Rattle.px_resend.specs.declared.resend.Resend.{Resend}

module _ {L : Type 0} (stands : Standing L) where
  -- ---- one with a client

  client_stands_for : (layer : L) → IsSound (stands_by stands) (conversations.Client layer) → IsSound stands layer
  client_stands_for layer (conversations.Client made, past, given, is) = (made, past, given, is)
  client_stands_for layer (conversations.Resent made, past, given, is) = absurd is

  pub client_sound : (whole : Conversation L) (layer : L) → whole ≡ conversations.Client layer → IsSound (stands_by stands) whole → IsSound stands layer
  client_sound whole layer is sound =
      let P : Conversation L → Type 0 = IsSound (stands_by stands) in client_stands_for layer (subst P is sound)

  pub client_after : (layer : L) → IsSound stands layer → IsSound (stands_by stands) (conversations.Client layer)
  client_after layer (made, past, given, is) = (conversations.Client made, past, given, is)

  client_moves : (before after : L) (move : Move) (more : List Command) →
      ((made : L) (past : List Move) (given : List Command) → stands made before past given → stands made after (past ++ move ∷ []) (given ++ more)) →
      (made : Conversation L) (past : List Move) (given : List Command) → stands_by stands made (conversations.Client before) past given →
      stands_by stands made (conversations.Client after) (past ++ move ∷ []) (given ++ more)
  client_moves before after move more moves (conversations.Client made) past given is = moves made past given is
  client_moves before after move more moves (conversations.Resent made) past given is = is

  pub client_goes : (whole : Conversation L) (before after : L) (move : Move) (out longer : List Command) → whole ≡ conversations.Client before →
      Goes stands before after move out longer → Goes (stands_by stands) whole (conversations.Client after) move out longer
  client_goes whole before after move out longer is goes =
      let P : Conversation L → Type 0 = λ it. Goes (stands_by stands) it (conversations.Client after) move out longer in
      subst P (sym is) (record { more = goes.more; grown = goes.grown; stands = client_moves before after move goes.more goes.stands })

  -- ---- a request that is sent again

  resent_stands_for : (resent : Resend) → IsSound (stands_by stands) (conversations.Resent resent) → IsSound ResendStands resent
  resent_stands_for resent (conversations.Client made, past, given, is) = absurd is
  resent_stands_for resent (conversations.Resent made, past, given, is) = (made, past, given, is)

  pub resent_sound : (whole : Conversation L) (resent : Resend) → whole ≡ conversations.Resent resent → IsSound (stands_by stands) whole → IsSound ResendStands resent
  resent_sound whole resent is sound =
      let P : Conversation L → Type 0 = IsSound (stands_by stands) in resent_stands_for resent (subst P is sound)

  pub resent_after : (resent : Resend) → IsSound ResendStands resent → IsSound (stands_by stands) (conversations.Resent resent)
  resent_after resent (made, past, given, is) = (conversations.Resent made, past, given, is)

  resent_moves : (before after : Resend) (move : Move) (more : List Command) →
      ((made : Resend) (past : List Move) (given : List Command) → ResendStands made before past given → ResendStands made after (past ++ move ∷ []) (given ++ more)) →
      (made : Conversation L) (past : List Move) (given : List Command) → stands_by stands made (conversations.Resent before) past given →
      stands_by stands made (conversations.Resent after) (past ++ move ∷ []) (given ++ more)
  resent_moves before after move more moves (conversations.Client made) past given is = is
  resent_moves before after move more moves (conversations.Resent made) past given is = moves made past given is

  pub resent_goes : (whole : Conversation L) (before after : Resend) (move : Move) (out longer : List Command) → whole ≡ conversations.Resent before →
      Goes ResendStands before after move out longer → Goes (stands_by stands) whole (conversations.Resent after) move out longer
  resent_goes whole before after move out longer is goes =
      let P : Conversation L → Type 0 = λ it. Goes (stands_by stands) it (conversations.Resent after) move out longer in
      subst P (sym is) (record { more = goes.more; grown = goes.grown; stands = resent_moves before after move goes.more goes.stands })
