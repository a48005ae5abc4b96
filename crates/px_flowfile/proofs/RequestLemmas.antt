-- What a request's lines say of its method and its port.
use Rattle.std.proofs.Common.{◌≢◌, ℕ, List, Option, Some, None, IsSomeAnd, codes}
use Rattle.px_tnet.specs.Tree.{Tree, Pairs}
use Rattle.px_flowfile.specs.Keys.{name_of}
use Rattle.px_flowfile.specs.Kind.{Kind}
use Rattle.px_flowfile.specs.Message.{method}
use Rattle.px_flowfile.specs.Simple.{port}
use Rattle.px_flowfile.specs.Table.{ReadsAt, lookup}
use Rattle.px_flowfile.specs.declared.key.Key.TheVariants as key

some_read : {A : Type 0} (kind : Kind A) (P : A → Type 0) (a : A) (found : Option Tree) → ((t : Tree) → kind.Reads t a → P a)
    → IsSomeAnd found (λ t. kind.Reads t a) → P a
some_read kind P a (Some t) step h = step t h
some_read kind P a None step h = absurd h

pub no_connect : (pairs : Pairs) (m : List ℕ) → ReadsAt key.Method method pairs m → m ≢ codes "CONNECT"
no_connect pairs m h = some_read method (λ m. m ≢ codes "CONNECT") m (lookup (name_of key.Method) pairs) (λ t read. read.1.1) h

pub no_zero : (pairs : Pairs) (n : ℕ) → ReadsAt key.Port port pairs n → n ≢ 0
no_zero pairs n h = some_read port (λ n. n ≢ 0) n (lookup (name_of key.Port) pairs) (λ t read. read.1.0) h
