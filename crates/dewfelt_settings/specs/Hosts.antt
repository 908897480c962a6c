-- Names of hosts, with their ports: this project's own form, wider than that of RFC 1123 but for its length. To be believed.
use Rattle.std.specs.Prelude.{ℕ, Bool, ◌≤◌, ◌||◌, ◌&&◌, nat_eq, nat_le, IsTrue, List, codes, length}
use Rattle.std.specs.List.{list_all, list_any}

-- a small letter, a digit, or one of six signs
abbrev pub is_host_octet : ℕ → Bool
is_host_octet octet = (nat_le 97 octet && nat_le octet 122) || ((nat_le 48 octet && nat_le octet 57)
    || list_any (λ sign. nat_eq octet sign) (codes ".-_:[]"))

-- 1 to 128 of them
abbrev pub IsHostName : List ℕ → Type 0
IsHostName text = IsTrue (list_all is_host_octet text) × (1 ≤ length text) × (length text ≤ 128)
