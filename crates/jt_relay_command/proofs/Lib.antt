mod Faults
