-- What clap's model says of the command.
use Rattle.std.proofs.Common.{◌≡◌, inl, inr, [], refl, subst, true, ap, Option, Some, None}
use Rattle.std.specs.Prelude.{IsSomeAnd}
use Rattle.clap.specs.Words.{HasKind, IsAmong, Kinds, is_simple, is_simple_and_free, kind_of}
use Rattle.clap.specs.declared.error.Error.{Error}
use Rattle.clap.specs.declared.error.kind.ErrorKind.TheVariants.{OutOfMemory}
use Rattle.clap.proofs.OnLiterals.{clap_on_literals}
use Rattle.request.specs.CommandLine.{fffuu}

pub fffuu-simple : is_simple fffuu ≡ true
unfolding fffuu clap_on_literals
fffuu-simple = refl

pub fffuu-free : is_simple_and_free fffuu ≡ true
unfolding fffuu clap_on_literals
fffuu-free = refl

-- an error that is none of memory has a kind among those that may come
pub has_fault : (e : Error) (kinds : Kinds) → HasKind kinds e → (kind_of e ≡ OutOfMemory → ⊥) → kinds ≡ [] → ⊥
has_fault e kinds (inl memory) other none = other memory
has_fault e kinds (inr among) other none = subst (IsAmong (kind_of e)) none among

pub some_given : {X : Type 0} (o : Option X) (v : X) → IsSomeAnd o (λ x. x ≡ v) → o ≡ Some v
some_given (Some x) v h = ap (λ y. Some y) h
some_given None v h = absurd h
