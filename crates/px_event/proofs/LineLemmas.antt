-- The bytes of a line: of joined lines, of a beginning of a line, and of bytes alone. A close before bytes is another line.
use Rattle.std.proofs.Common.{◌≡◌, ◌≢◌, ℕ, true, List, [], ◌∷◌, ◌++◌, map, refl, ap, sym, ◌∙◌}
use Rattle.std.proofs.lemmas.Bool.{eq-eqb}
use Rattle.std.proofs.lemmas.Grind.{flat_map-append}
use Rattle.px_text.specs.Prefix.{IsPrefixOf}
use Rattle.px_event.specs.declared.command.Command.TheVariants as commands
use Rattle.px_event.specs.declared.side.Side.{Side}
use Rattle.px_event.specs.declared.side.Side.TheVariants.{Client, Server}
use Rattle.px_event.specs.Trace.{is_same_side}
use Rattle.px_event.specs.View.{Atom, byte, close, line, byte_in, bytes_in, seen_of}

pub bytes_join : (xs ys : List Atom) → bytes_in (xs ++ ys) ≡ bytes_in xs ++ bytes_in ys
bytes_join xs ys = flat_map-append byte_in xs ys

pub bytes_begin : (xs ys : List Atom) → IsPrefixOf xs ys → IsPrefixOf (bytes_in xs) (bytes_in ys)
bytes_begin xs ys (more, is) = (bytes_in more, ap bytes_in is ∙ bytes_join xs more)

pub bytes_alone : (text : List ℕ) → bytes_in (map byte text) ≡ text
bytes_alone [] = refl
bytes_alone (b ∷ text) = ap (λ l. b ∷ l) (bytes_alone text)

same_side : (side : Side) → is_same_side side side ≡ true
same_side Client = refl
same_side (Server number) = eq-eqb number number refl

pub close_first : (side : Side) (value : ℕ) (text : List ℕ) →
    seen_of (line side) (commands.Close side ∷ commands.Send side (value ∷ text) ∷ [])
    ≢ seen_of (line side) (commands.Send side (value ∷ text) ∷ commands.Close side ∷ [])
close_first side value text same =
    let is = same_side side in
    let first : seen_of (line side) (commands.Close side ∷ commands.Send side (value ∷ text) ∷ [])
    ≡ close side ∷ (map byte (value ∷ text) ++ []) = rw is refl in
    let second : seen_of (line side) (commands.Send side (value ∷ text) ∷ commands.Close side ∷ [])
    ≡ byte value ∷ (map byte text ++ close side ∷ []) = rw is refl in
    let e : close side ∷ (map byte (value ∷ text) ++ []) ≡ byte value ∷ (map byte text ++ close side ∷ []) = sym first ∙ (same ∙ second) in
    absurd (cc)
