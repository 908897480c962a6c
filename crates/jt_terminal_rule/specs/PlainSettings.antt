-- The settings of a terminal of which a phone, a plate and a terminal id are known: this project's own. To be believed.
use Rattle.std.specs.Prelude.{ℕ, ◌-◌, List, ◌++◌, length, replicate, Option, Some, None}
use Rattle.jt_value.specs.declared.phone.Edition.{Edition}
use Rattle.jt_value.specs.declared.phone.Edition.TheVariants.{E2013, E2019}
use Rattle.jt_value.specs.declared.phone.Phone.{Phone}
use Rattle.jt_register.specs.Registration.{maker_len, model_len, terminal_len}
use Rattle.jt_register.specs.declared.auth.AuthTail.{AuthTail}
use Rattle.jt_register.specs.declared.register.Register.{Register}
use Rattle.jt_terminal_rule.specs.declared.settings.Settings.{Settings}

-- so many zero octets
abbrev pub zeros : ℕ → List ℕ
zeros count = replicate count 0

-- these octets, filled with zero octets up to so many
abbrev pub zero_filled : ℕ → List ℕ → List ℕ
zero_filled count octets = octets ++ zeros (count - length octets)

-- Province and city are 0, the maker and the model all zero octets, the terminal id is filled, and the colour is 1.
abbrev pub register_of : Edition → List ℕ → List ℕ → Register
register_of edition plate terminal = record {
  province = 0;
  city = 0;
  maker = zeros (maker_len edition);
  model = zeros (model_len edition);
  terminal = zero_filled (terminal_len edition) terminal;
  colour = 1;
  plate = plate;
}

-- in 2019 the IMEI and the software version of an authentication are all zero octets
abbrev pub tail_of : Edition → Option AuthTail
tail_of E2013 = None
tail_of E2019 = Some (record { imei = zeros 15; software = zeros 20 })

-- the settings of this phone, plate and terminal id; a heartbeat is sent after 60 seconds in which nothing was sent, an answer is waited for 10
-- seconds at first, and a message without one is sent again up to three times
abbrev pub settings_of : Phone → List ℕ → List ℕ → Settings
settings_of phone plate terminal = record {
  phone = phone;
  register = register_of phone.edition plate terminal;
  tail = tail_of phone.edition;
  heartbeat = 60;
  answer = 10;
  repeats = 3;
}
