mod Blocking
