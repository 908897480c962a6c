-- The laws of registrations, replies and authentications: each layout's octets have exactly one value or exactly one reason.
use Rattle.std.proofs.Common.{◌≡◌, ℕ, List, Option, Some, None, refl, sym, ap}
use Rattle.std.specs.Prelude.{◌==◌}
use Rattle.jt_layout.specs.Layout.{rest}
use Rattle.jt_layout.proofs.Laws.{IsPart, IsBody, byte_law, word_law, octets_law, rest_law, rest_if_law, then_law, then_body_law, ended_law, part_as_law, body_as_law, case_law}
use Rattle.jt_layout.proofs.Repeats.{block_law}
use Rattle.jt_value.specs.declared.phone.Edition.{Edition}
use Rattle.jt_value.specs.declared.phone.Edition.TheVariants.{E2013, E2019}
use Rattle.jt_register.specs.declared.auth.Auth.{Auth}
use Rattle.jt_register.specs.declared.auth.AuthTail.{AuthTail}
use Rattle.jt_register.specs.Registration.{maker_len, model_len, terminal_len, register, register_reply, code_without, auth_2013, auth_tail, code_with, auth_2019, auth}

pub register_law : (edition : Edition) → IsBody (register edition)
unfolding register
register_law edition = body_as_law _ _ _ (then_body_law _ _ word_law (λ _. then_body_law _ _ word_law (λ _. then_body_law _ _ (octets_law (maker_len edition)) (λ _. then_body_law _ _ (octets_law (model_len edition)) (λ _. then_body_law _ _ (octets_law (terminal_len edition)) (λ _. then_body_law _ _ byte_law (λ _. rest_law))))))) (λ x fits. refl) (λ m. refl)

pub register_reply_law : IsBody register_reply
unfolding register_reply
register_reply_law = body_as_law _ _ _ (then_body_law _ _ word_law (λ _. then_body_law _ _ byte_law (λ result. rest_if_law (result == 0)))) (λ x fits. refl) (λ m. refl)

abbrev without_tail : List ℕ → Auth
without_tail code = record { code = code; tail = None }

abbrev with : Option AuthTail → List ℕ → Auth
with tail code = record { code = code; tail = tail }

some_is : (x y : List ℕ) → Some x ≡ Some y → x ≡ y
some_is x y e = cc

whole : (tail : Option AuthTail) (code x : List ℕ) → code_without tail code ≡ Some x → without_tail x ≡ with tail code
whole None code x e = ap without_tail (sym (some_is code x e))
whole (Some tail) code x e = absurd cc

auth_2013_law : IsBody auth_2013
unfolding auth_2013
auth_2013_law = case_law rest without_tail (λ m. code_without m.tail m.code) rest_law (λ x. refl) (λ m x e. whole m.tail m.code x e)

auth_tail_law : IsPart auth_tail
unfolding auth_tail
auth_tail_law = part_as_law _ _ _ (then_law _ _ (octets_law 15) (λ _. octets_law 20)) (λ x fits. refl) (λ m. refl)

abbrev with_tail : List ℕ × AuthTail → Auth
with_tail x = record { code = x.0; tail = Some x.1 }

both_are : (x y : List ℕ × AuthTail) → Some x ≡ Some y → x ≡ y
both_are x y e = cc

whole_with : (tail : Option AuthTail) (code : List ℕ) (x : List ℕ × AuthTail) → code_with tail code ≡ Some x → with_tail x ≡ with tail code
whole_with (Some tail) code x e = ap with_tail (sym (both_are (code, tail) x e))
whole_with None code x e = absurd cc

auth_2019_law : IsBody auth_2019
unfolding auth_2019
auth_2019_law = case_law _ with_tail (λ m. code_with m.tail m.code) (ended_law _ (then_law _ _ (block_law _ byte_law) (λ _. auth_tail_law))) (λ x. refl) (λ m x e. whole_with m.tail m.code x e)

pub auth_law : (edition : Edition) → IsBody (auth edition)
auth_law E2013 = auth_2013_law
auth_law E2019 = auth_2019_law

spelled : (tail : Option AuthTail) (code : List ℕ) → auth_2013.Fits (with tail code) → auth_2013.spell (with tail code) ≡ code
unfolding auth_2013 rest
spelled None code fits = refl
spelled (Some tail) code fits = absurd fits

-- an authentication that fits is its code
pub spell_auth : (m : Auth) → auth_2013.Fits m → auth_2013.spell m ≡ m.code
spell_auth m fits = spelled m.tail m.code fits
